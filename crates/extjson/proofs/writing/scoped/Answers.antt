use Rattle.std.proofs.Common.{◌≡◌, subst, refl}
use Rattle.std.specs.Prelude.{IfOk}
use Rattle.json_tree.specs.declared.tree.Tree.{Tree}
use Rattle.extjson.specs.Trees.{scoped_tree}
use Rattle.extjson.proofs.Wraps.{pair_is}
use Rattle.extjson.proofs.writing.scoped.Goals as goal

pub returns : goal.returns
unfolding scoped_tree
returns c = subst (λ (u : Tree). IfOk c.pair.result (λ t. t ≡ u)) (pair_is _ _ _ _ _ _ c.in_ok-code.ensures refl) c.pair.ensures
