use Rattle.extjson.specs.Trees.{decimal_tree}
use Rattle.extjson.proofs.Wraps.{wrap_is}
use Rattle.extjson.proofs.writing.decimal.Goals as goal

pub returns : goal.returns
unfolding decimal_tree
returns c = wrap_is c.wrap.result _ _ _ (c.in_ok-bits.ensures) c.wrap.ensures
