use Rattle.bson_check.proofs.Whole.{faultless_if_spelled}
use Rattle.bson_check.proofs.laws.faultless_if_spelled.Goals as goal

pub returns : goal.returns
returns c = faultless_if_spelled
