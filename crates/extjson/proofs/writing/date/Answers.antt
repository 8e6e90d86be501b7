use Rattle.std.proofs.Common.{◌≡◌, ℤ, subst}
use Rattle.std.specs.Prelude.{IfOk}
use Rattle.std.specs.Int.{w64}
use Rattle.std.proofs.lemmas.Int.{to_z-of_z}
use Rattle.extjson.specs.Trees.{date_tree}
use Rattle.extjson.proofs.Wraps.{wrap_is}
use Rattle.extjson.proofs.writing.date.Goals as goal

pub returns : goal.returns
unfolding date_tree
returns c =
    subst (λ (z : ℤ). IfOk c.wrap.result (λ t. t ≡ date_tree z)) (to_z-of_z w64 c.args.n c.ranges.n)
    (wrap_is c.wrap.result _ _ _ (c.in_ok-long.ensures) c.wrap.ensures)
