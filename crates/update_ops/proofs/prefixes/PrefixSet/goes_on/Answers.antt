use Rattle.std.proofs.Common.{◌≡◌, sym, ap, ◌∙◌, subst, List, ℕ}
use Rattle.std.specs.Prelude.{Bool, false}
use Rattle.std.specs.List.{list_any}
use Rattle.update_ops.specs.Prefixes.{starts}
use Rattle.update_ops.proofs.TextOrder.{prefix_is, goes_on_by, none_goes_on_by}
use Rattle.update_ops.proofs.prefixes.PrefixSet.goes_on.Goals as goal

pub returns-in-Some : goal.returns-in-Some
returns-in-Some c =
    let told = goes_on_by c.self.inside.texts c.args.text.now c.in-Some.next.now c.range.result _ c.in-Some.ensures.steps (c.range.ensures.in_range tt) in
    c.starts_with.ensures.value ∙ (prefix_is c.as_slice-in-Some.result.now c.as_slice.result.now
    ∙ ((λ i. starts (c.as_slice-in-Some.ensures i) (c.as_slice.ensures i)) ∙ (told ∙ ap (list_any (starts c.args.text.now)) c.self.view_is)))

pub returns-in-None : goal.returns-in-None
returns-in-None c = none_goes_on_by c.self.inside.texts c.args.text.now c.range.result c.in-None.ensures.steps.0 (c.range.ensures.in_range tt) ∙ ap (list_any (starts c.args.text.now)) c.self.view_is
