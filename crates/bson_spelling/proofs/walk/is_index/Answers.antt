use Rattle.std.proofs.Common.{◌≡◌, ℕ, ◌+◌, ◌<◌, ◌∷◌, [], sym, arith, ◌∙◌}
use Rattle.std.specs.Fmt.{decimal}
use Rattle.std.proofs.lemmas.Slice.Eq.{bytes_eq-Decides}
use Rattle.bson_value.proofs.Digits.{digits-one, digits-is_decimal}
use Rattle.bson_spelling.proofs.walk.is_index.Goals as goal

one_digit : (n : ℕ) → n < 10 → (48 + n) ∷ [] ≡ decimal n
one_digit n l = sym (digits-one n l) ∙ digits-is_decimal n (omega arith)

pub returns-then-index-lt10 : goal.returns-then-index-lt10
returns-then-index-lt10 c =
    let is : c.as_slice.result.now ≡ decimal c.args.index = c.as_slice.ensures ∙ one_digit c.args.index c.if-index-lt10.true in
    let same = bytes_eq-Decides c.args.name.now c.as_slice.result.now in
    (λ y. same.0 (sym c.eq.ensures ∙ y) ∙ is, λ e. c.eq.ensures ∙ same.1 (e ∙ sym is))
