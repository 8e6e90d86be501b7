use Rattle.extjson.specs.Trees.{symbol_tree}
use Rattle.extjson.proofs.Wraps.{wrap_is}
use Rattle.extjson.proofs.writing.symbol.Goals as goal

pub returns : goal.returns
unfolding symbol_tree
returns c = wrap_is c.wrap.result _ _ _ (c.in_ok-text.ensures) c.wrap.ensures
