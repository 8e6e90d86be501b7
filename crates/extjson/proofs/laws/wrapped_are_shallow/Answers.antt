use Rattle.extjson.proofs.Deeper.{wrapped_shallow}
use Rattle.extjson.proofs.laws.wrapped_are_shallow.Goals as goal

pub returns : goal.returns
returns c = wrapped_shallow
