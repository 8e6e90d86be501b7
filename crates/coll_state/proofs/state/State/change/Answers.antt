use Rattle.std.proofs.Common.{sym, subst}
use Rattle.coll_state.proofs.Sound.{AreKeptWell}
use Rattle.coll_state.proofs.state.State.change.Goals as goal

pub invariant_of-self : goal.invariant_of-self
invariant_of-self c = subst (AreKeptWell c.self.inside.count) (sym c.reserve.ensures.tables) c.self.invariant

pub apply-self-inside-requires-clause-sound : goal.apply-self-inside-requires-clause-sound
apply-self-inside-requires-clause-sound c = subst (AreKeptWell c.self.inside.count) (sym c.reserve.ensures.tables) c.self.invariant
