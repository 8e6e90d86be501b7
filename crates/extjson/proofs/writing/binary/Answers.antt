use Rattle.std.proofs.Common.{◌∙◌}
use Rattle.extjson.specs.Trees.{binary_tree}
use Rattle.extjson.proofs.Wraps.{wrap_is, pair_is, str_is}
use Rattle.extjson.proofs.writing.binary.Goals as goal

pub returns : goal.returns
unfolding binary_tree
returns c = wrap_is c.wrap.result _ _ _ (c.in_ok-inner.ensures ∙ pair_is _ _ _ _ _ _ (c.in_ok-string.ensures ∙ str_is _ _ c.in_ok-encoded.ensures.text) c.in_ok-subtype.ensures) c.wrap.ensures
