use Rattle.extjson.proofs.Shallow.{trees_shallow}
use Rattle.extjson.proofs.laws.trees_are_shallow.Goals as goal

pub returns : goal.returns
returns c = trees_shallow
