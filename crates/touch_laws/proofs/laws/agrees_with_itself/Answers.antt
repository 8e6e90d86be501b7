use Rattle.touch_laws.proofs.Agreement.{agrees_with_itself}
use Rattle.touch_laws.proofs.laws.agrees_with_itself.Goals as goal

pub returns : goal.returns
returns c = agrees_with_itself
