use Rattle.tree_sizes.proofs.Short.{values_short}
use Rattle.tree_sizes.proofs.laws.values_are_short.Goals as goal

pub returns : goal.returns
returns c = values_short
