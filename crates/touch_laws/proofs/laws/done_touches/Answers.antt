use Rattle.touch_laws.proofs.Agreement.{done_stays}
use Rattle.touch_laws.proofs.Done.{done_fits}
use Rattle.touch_laws.proofs.laws.done_touches.Goals as goal

pub returns : goal.returns
returns c = record { stays = done_stays; fits = done_fits }
