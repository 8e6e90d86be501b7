use Rattle.extjson.proofs.Once.{wrapped_once}
use Rattle.extjson.proofs.laws.wrapped_once.Goals as goal

pub returns : goal.returns
returns c = wrapped_once
