use Rattle.formed_trees.proofs.Formed.{trees_formed}
use Rattle.formed_trees.proofs.laws.trees_are_formed.Goals as goal

pub returns : goal.returns
returns c = trees_formed
