use Rattle.std.proofs.Common.{sym, ◌∙◌, ◌≡◌, [], ◌∷◌, List, ℕ, length, arith, true, refl}
use Rattle.std.specs.Prelude.{◌==◌}
use Rattle.std.proofs.lemmas.Grind.{common_steps}
use Rattle.bson_value.proofs.Indexes.{no_digits, other_digit, one_digit, more_digits}
use Rattle.bson_value.proofs.index.+are_digits.Goals as goal

is_nil : (xs : List ℕ) → length xs ≡ 0 → xs ≡ []
is_nil [] e = refl
is_nil (x ∷ xs) e = absurd (omega arith)

tests_nil : (xs : List ℕ) → (length xs == 0) ≡ true → xs ≡ []
tests_nil xs e = is_nil xs (grind (arith, common_steps))

nil_tests : (xs : List ℕ) → xs ≡ [] → (length xs == 0) ≡ true
nil_tests xs e = rw e refl

pub returns-in-None : goal.returns-in-None
returns-in-None t c = ((λ x. cc), λ e. absurd (no_digits c.args.number (sym (is_nil c.args.bytes.now c.in-None.ensures.cases) ∙ e)))

pub returns-then-last-number : goal.returns-then-last-number
returns-then-last-number t c = ((λ x. cc), λ e. absurd (other_digit c.args.number c.in-Some.last.now c.in-Some.front.now c.if-last-number.true (sym c.in-Some.ensures.cases.0 ∙ e)))

pub returns-then-number-lt10 : goal.returns-then-number-lt10
returns-then-number-lt10 t c =
    let o = one_digit c.args.number c.in-Some.last.now c.in-Some.front.now c.if-number-lt10.true c.if-last-number.false in (
      (λ x. c.in-Some.ensures.cases.0 ∙ o.0 (tests_nil c.in-Some.front.now (sym c.is_empty.ensures ∙ x))),
      λ e. c.is_empty.ensures ∙ nil_tests c.in-Some.front.now (o.1 (sym c.in-Some.ensures.cases.0 ∙ e)),
    )

pub returns-else-number-lt10 : goal.returns-else-number-lt10
returns-else-number-lt10 t c =
    let o = more_digits c.args.number c.in-Some.last.now c.in-Some.front.now c.if-number-lt10.false c.if-last-number.false in (
      (λ x. c.in-Some.ensures.cases.0 ∙ o.0 (c.are_digits.ensures.0 x)),
      λ e. c.are_digits.ensures.1 (o.1 (sym c.in-Some.ensures.cases.0 ∙ e)),
    )
