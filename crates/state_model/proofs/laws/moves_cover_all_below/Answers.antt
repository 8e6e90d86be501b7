use Rattle.state_model.proofs.Moves.{any_mono}
use Rattle.state_model.proofs.laws.moves_cover_all_below.Goals as goal

pub returns : goal.returns
returns c = any_mono c.covers_all_below.ensures.hereditary
