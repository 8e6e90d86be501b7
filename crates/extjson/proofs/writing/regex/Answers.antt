use Rattle.std.proofs.Common.{◌∙◌}
use Rattle.extjson.specs.Trees.{regex_tree}
use Rattle.extjson.proofs.Wraps.{wrap_is, pair_is}
use Rattle.extjson.proofs.writing.regex.Goals as goal

pub returns : goal.returns
unfolding regex_tree
returns c = wrap_is c.wrap.result _ _ _ (c.in_ok-inner.ensures ∙ pair_is _ _ _ _ _ _ c.in_ok-pattern.ensures c.in_ok-options.ensures) c.wrap.ensures
