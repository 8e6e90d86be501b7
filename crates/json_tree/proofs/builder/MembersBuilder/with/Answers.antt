use Rattle.json_tree.proofs.Names.{set_beside}
use Rattle.json_tree.proofs.builder.MembersBuilder.with.Goals as goal

pub invariant_of-result : goal.invariant_of-result
invariant_of-result g c = set_beside c.in_ok-names.names c.self.inside.members _ c.add.new.self c.args.name _ c.args.value c.entries.ensures.entries c.as_str.ensures c.in_ok-add.ensures.ok c.in_ok-names.ensures

pub returns : goal.returns
returns g c = rw c.self.view_is at c.in_ok-add.ensures.ok
