use Rattle.std.proofs.Common.{◌∙◌}
use Rattle.extjson.specs.Trees.{stamp_tree}
use Rattle.extjson.proofs.Wraps.{wrap_is, pair_is}
use Rattle.extjson.proofs.writing.stamp.Goals as goal

pub returns : goal.returns
unfolding stamp_tree
returns c = wrap_is c.wrap.result _ _ _ (c.in_ok-inner.ensures ∙ pair_is _ _ _ _ _ _ c.in_ok-secs.ensures c.in_ok-inc.ensures) c.wrap.ensures
