use Rattle.touch_laws.proofs.Agreement.{differences_are_covered}
use Rattle.touch_laws.proofs.laws.differences_are_covered.Goals as goal

pub returns : goal.returns
returns c = differences_are_covered
