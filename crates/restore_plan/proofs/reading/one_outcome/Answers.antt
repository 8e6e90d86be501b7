use Rattle.restore_plan.proofs.Outcomes.{outcome_once, outcome_total}
use Rattle.restore_plan.proofs.reading.one_outcome.Goals as goal

pub returns : goal.returns
returns c = λ p bytes. (outcome_total p bytes, outcome_once p bytes)
