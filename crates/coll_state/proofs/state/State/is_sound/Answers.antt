use Rattle.std.proofs.Common.{subst}
use Rattle.coll_state.specs.Rows.{AreSound}
use Rattle.coll_state.proofs.state.State.is_sound.Goals as goal

pub returns : goal.returns
returns c = subst AreSound c.self.view_is c.self.invariant
