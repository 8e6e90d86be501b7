use Rattle.bson_check.proofs.Whole.{spelled_once}
use Rattle.bson_check.proofs.laws.spelled_once.Goals as goal

pub returns : goal.returns
returns c = spelled_once
