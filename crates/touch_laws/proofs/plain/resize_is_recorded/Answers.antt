use Rattle.touch_laws.proofs.Bridge.{resize_fits, resize_is_done}
use Rattle.touch_laws.proofs.plain.resize_is_recorded.Goals as goal

pub returns : goal.returns
returns c = record { fits = resize_fits; done = resize_is_done }
