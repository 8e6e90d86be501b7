use Rattle.std.proofs.Common.{ℕ, ◌∷◌, ap, ◌∙◌}
use Rattle.plain_json.proofs.Wholes.{plus_bits, minus_bits, plus_read, minus_read}
use Rattle.plain_json.proofs.numbers.int.Goals as goal

pub returns-in_ok-number-in-Some-eq45-default-clause-read : goal.returns-in_ok-number-in-Some-eq45-default-clause-read
returns-in_ok-number-in-Some-eq45-default-clause-read c =
    let bound = c.in_ok-number-in-Some-eq45-default.ensures.bound in
    let first = c.in-Some-eq45-default.ensures.cases.0 ∙ ap (λ (b : ℕ). b ∷ c.in-Some-eq45-default.digits.now) c.in-Some-eq45-default.field-0-0-test in
    rw (minus_bits c.in_ok-number-in-Some-eq45-default.number bound) (minus_read c.args.bytes.now _ _ _ bound first c.in_ok-number-in-Some-eq45-default.ensures.read)

pub returns-in_ok-number-in_default-clause-read : goal.returns-in_ok-number-in_default-clause-read
returns-in_ok-number-in_default-clause-read c =
    let bound = c.in_ok-number-in_default.ensures.bound in
    rw (plus_bits c.in_ok-number-in_default.number bound) (plus_read c.args.bytes.now _ _ bound c.in_ok-number-in_default.ensures.read)
