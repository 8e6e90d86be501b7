use Rattle.extjson.proofs.Unwrapped.{trees_wrapped}
use Rattle.extjson.proofs.laws.trees_are_wrapped.Goals as goal

pub returns : goal.returns
returns c = trees_wrapped
