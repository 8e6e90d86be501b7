use Rattle.bson_check.proofs.Whole.{levels_needed}
use Rattle.bson_check.proofs.laws.levels_needed.Goals as goal

pub returns : goal.returns
returns c = levels_needed
