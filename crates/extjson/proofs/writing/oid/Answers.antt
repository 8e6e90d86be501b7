use Rattle.extjson.specs.Trees.{oid_tree}
use Rattle.extjson.proofs.Wraps.{wrap_is}
use Rattle.extjson.proofs.writing.oid.Goals as goal

pub returns : goal.returns
unfolding oid_tree
returns c = wrap_is c.wrap.result _ _ _ (c.in_ok-hex.ensures) c.wrap.ensures
