use Rattle.copy_model.proofs.Interleavings.{covered}
use Rattle.copy_model.proofs.laws.differences_are_covered.Goals as goal

pub returns : goal.returns
returns c = λ before first es f. covered c.moves_change_what_they_cover.ensures c.made_moves.ensures.settled before first es f.sound f.before_start f.since
