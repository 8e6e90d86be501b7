use Rattle.std.proofs.Common.{◌≡◌, sym, ap, ◌∙◌, subst, arith, List, ℕ, Bool, true, false, refl}
use Rattle.std.specs.Prelude.{not, ◌||◌}
use Rattle.std.specs.List.{list_any}
use Rattle.update_ops.specs.Prefixes.{Text, starts, clash, IsPrefixFree}
use Rattle.update_ops.proofs.TextOrder.{any_clash, free_insert}
use Rattle.update_ops.proofs.prefixes.PrefixSet.claim.Goals as goal
use Rattle.update_ops.proofs.prefixes.PrefixSet.claim.Goals.{then-goes_on-via-then-goes_on, then-goes_on-via-else-goes_on+then-has_front}

pub returns-then-goes_on-clause-answer : goal.returns-then-goes_on-clause-answer
returns-then-goes_on-clause-answer c =
    let all = any_clash c.args.self.now c.args.text in
    elim c.then-goes_on.branch [
      | then-goes_on-via-then-goes_on w ↦ (let f : list_any (starts c.args.text) c.args.self.now ≡ true = sym c.goes_on.ensures ∙ w.if-goes_on.true in rw (all, f) refl)
      | then-goes_on-via-else-goes_on+then-has_front w ↦ (let f : list_any (λ (u : Text). starts u c.args.text) c.args.self.now ≡ true = sym w.has_front.ensures ∙ w.if-has_front.true in let g : list_any (starts c.args.text) c.args.self.now || true ≡ true = grind arith in rw (all, f, g) refl)
    ]

pub invariant_of-self-2 : goal.invariant_of-self-2
invariant_of-self-2 c =
    let f : list_any (starts c.args.text) c.args.self.now ≡ false = sym c.goes_on.ensures ∙ c.if-goes_on.false in
    let g : list_any (λ (u : Text). starts u c.args.text) c.args.self.now ≡ false = sym c.has_front.ensures ∙ c.if-has_front.false in
    let none : list_any (clash c.args.text) c.self.inside.texts.keys ≡ false = ap (list_any (clash c.args.text)) c.self.view_is ∙ rw (any_clash c.args.self.now c.args.text, f, g) refl in
    subst IsPrefixFree (sym c.in_ok-insert.ensures.keys) (free_insert c.self.inside.texts.keys c.args.text c.self.invariant none)

pub returns-clause-answer : goal.returns-clause-answer
returns-clause-answer c =
    let f : list_any (starts c.args.text) c.args.self.now ≡ false = sym c.goes_on.ensures ∙ c.if-goes_on.false in
    let g : list_any (λ (u : Text). starts u c.args.text) c.args.self.now ≡ false = sym c.has_front.ensures ∙ c.if-has_front.false in
    rw (any_clash c.args.self.now c.args.text, f, g) refl
