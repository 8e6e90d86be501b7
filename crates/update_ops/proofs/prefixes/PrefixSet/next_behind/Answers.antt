use Rattle.std.proofs.Common.{◌≡◌, true, sym, ap, ◌∙◌, subst, List, ℕ}
use Rattle.std.specs.List.{list_any}
use Rattle.update_ops.specs.Prefixes.{Text, starts, IsBehind}
use Rattle.update_ops.proofs.TextOrder.{goes_on_by, none_goes_on_by, first_has}
use Rattle.update_ops.proofs.prefixes.PrefixSet.next_behind.Goals as goal

pub returns-in_ok-copy-in-Some-clause-some : goal.returns-in_ok-copy-in-Some-clause-some
returns-in_ok-copy-in-Some-clause-some c =
    let set = c.self.inside.texts in
    let range = c.range.ensures.in_range tt in
    let next = c.in-Some.next.now in
    let here = first_has set c.args.text.now next c.range.result _ c.in-Some.ensures.steps range in
    let some : list_any (starts c.args.text.now) set.keys ≡ true = ap (list_any (starts c.args.text.now)) c.self.view_is ∙ (sym c.goes_on.ensures ∙ c.if-not-goes_on.false) in
    let begins = goes_on_by set c.args.text.now next c.range.result _ c.in-Some.ensures.steps range ∙ some in
    subst (λ (t : Text). IsBehind c.args.text.now t c.args.self.now) (sym c.in_ok-copy-in-Some.ensures) (subst (λ (ts : List Text). IsBehind c.args.text.now next ts) c.self.view_is (here, begins))

pub returns-in-None-clause-none : goal.returns-in-None-clause-none
returns-in-None-clause-none c =
    sym (none_goes_on_by c.self.inside.texts c.args.text.now c.range.result c.in-None.ensures.steps.0 (c.range.ensures.in_range tt) ∙ ap (list_any (starts c.args.text.now)) c.self.view_is)
