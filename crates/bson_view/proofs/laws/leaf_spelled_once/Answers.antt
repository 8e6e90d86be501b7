use Rattle.bson_view.proofs.Leaves as leaves
use Rattle.bson_view.proofs.laws.leaf_spelled_once.Goals as goal

pub returns : goal.returns
returns c = leaves.leaf_spelled_once
