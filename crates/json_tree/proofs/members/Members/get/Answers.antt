use Rattle.std.proofs.Common.{sym, ◌∙◌}
use Rattle.containers.proofs.Entries.{place_is, has_not}
use Rattle.json_tree.proofs.members.Members.get.Goals as goal

pub returns-in-Some : goal.returns-in-Some
returns-in-Some g c = let p = place_is _ c.args.self.now c.in-Some.at c.in-Some.ensures.place in sym (p.found ∙ c.value.ensures)

pub returns-in-None : goal.returns-in-None
returns-in-None g c = sym (has_not _ c.args.self.now c.in-None.ensures.place).found
