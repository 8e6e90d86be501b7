use Rattle.restore_plan.proofs.Definitions.{definitions_stand}
use Rattle.restore_plan.proofs.reading.definitions_stand.Goals as goal

pub returns : goal.returns
returns c = definitions_stand
