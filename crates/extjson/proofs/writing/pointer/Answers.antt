use Rattle.std.proofs.Common.{◌∙◌}
use Rattle.extjson.specs.Trees.{pointer_tree}
use Rattle.extjson.proofs.Wraps.{wrap_is, pair_is}
use Rattle.extjson.proofs.writing.pointer.Goals as goal

pub returns : goal.returns
unfolding pointer_tree
returns c = wrap_is c.wrap.result _ _ _ (c.in_ok-inner.ensures ∙ pair_is _ _ _ _ _ _ c.in_ok-ns.ensures c.in_ok-id.ensures) c.wrap.ensures
