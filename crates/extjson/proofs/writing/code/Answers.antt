use Rattle.extjson.specs.Trees.{code_tree}
use Rattle.extjson.proofs.Wraps.{wrap_is}
use Rattle.extjson.proofs.writing.code.Goals as goal

pub returns : goal.returns
unfolding code_tree
returns c = wrap_is c.wrap.result _ _ _ (c.in_ok-text.ensures) c.wrap.ensures
