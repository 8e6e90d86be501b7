use Rattle.state_model.proofs.Made.{move_same, settled}
use Rattle.state_model.proofs.laws.made_moves.Goals as goal

pub returns : goal.returns
returns c = record { stays = move_same c.done_touches.ensures.stays; settled = settled c.done_touches.ensures.stays c.done_touches.ensures.fits }
