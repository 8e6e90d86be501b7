use Rattle.touch_laws.proofs.Agreement.{agreed_is_alike}
use Rattle.touch_laws.proofs.laws.agreed_for_no_touches.Goals as goal

pub returns : goal.returns
returns c = agreed_is_alike
