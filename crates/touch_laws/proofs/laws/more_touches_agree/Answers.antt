use Rattle.touch_laws.proofs.Agreement.{more_touches_agree}
use Rattle.touch_laws.proofs.laws.more_touches_agree.Goals as goal

pub returns : goal.returns
returns c = more_touches_agree
