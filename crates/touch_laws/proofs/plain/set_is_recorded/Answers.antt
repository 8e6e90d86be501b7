use Rattle.touch_laws.proofs.Bridge.{set_fits, set_is_done}
use Rattle.touch_laws.proofs.plain.set_is_recorded.Goals as goal

pub returns : goal.returns
returns c = record { fits = set_fits; done = set_is_done }
