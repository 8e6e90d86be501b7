use Rattle.std.proofs.Common.{◌≡◌, ℤ, subst, ◌∙◌}
use Rattle.std.specs.Prelude.{IfOk}
use Rattle.std.specs.Int.{w64}
use Rattle.std.proofs.lemmas.Int.{to_z-of_z}
use Rattle.extjson.specs.Trees.{long_tree}
use Rattle.extjson.proofs.Wraps.{wrap_is, str_is}
use Rattle.extjson.proofs.writing.long.Goals as goal

pub returns : goal.returns
unfolding long_tree
returns c =
    subst (λ (z : ℤ). IfOk c.wrap.result (λ t. t ≡ long_tree z)) (to_z-of_z w64 c.args.n c.ranges.n)
    (wrap_is c.wrap.result _ _ _ (c.in_ok-string.ensures ∙ str_is _ _ c.in_ok-digits.ensures.ok) c.wrap.ensures)
