use Rattle.restore_plan.proofs.Outcomes.{refused_once}
use Rattle.restore_plan.proofs.reading.refused_is_outcome.Goals as goal

pub returns : goal.returns
returns c = refused_once
