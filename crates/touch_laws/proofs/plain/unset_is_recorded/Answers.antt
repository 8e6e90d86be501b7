use Rattle.touch_laws.proofs.Bridge.{unset_fits, unset_is_done, unset_element}
use Rattle.touch_laws.proofs.plain.unset_is_recorded.Goals as goal

pub returns : goal.returns
returns c = record { fits = unset_fits; done = unset_is_done; element = unset_element }
