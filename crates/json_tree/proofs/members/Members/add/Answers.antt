use Rattle.containers.proofs.Entries.{distinct_push}
use Rattle.json_tree.proofs.members.Members.add.Goals as goal

pub invariant_of-self-2 : goal.invariant_of-self-2
invariant_of-self-2 g c = rw c.in_ok-push.ensures.items (distinct_push c.self.inside.entries.items c.args.name c.args.value (rw c.self.view_is c.requires) c.self.invariant)
