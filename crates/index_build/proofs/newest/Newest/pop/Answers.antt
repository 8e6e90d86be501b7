use Rattle.index_build.proofs.Rising.{rise_popped}
use Rattle.index_build.proofs.newest.Newest.pop.Goals as goal

pub invariant_of-self : goal.invariant_of-self
invariant_of-self c = rise_popped _ _ c.pop.result c.pop.ensures.items c.self.invariant
