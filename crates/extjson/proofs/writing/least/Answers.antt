use Rattle.extjson.specs.Trees.{min_tree}
use Rattle.extjson.proofs.Wraps.{wrap_is}
use Rattle.extjson.proofs.writing.least.Goals as goal

pub returns : goal.returns
unfolding min_tree
returns c = wrap_is c.wrap.result _ _ _ c.in_ok-key_number.ensures c.wrap.ensures
