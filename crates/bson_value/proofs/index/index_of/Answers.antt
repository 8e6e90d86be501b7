use Rattle.std.proofs.Common.{◌∙◌}
use Rattle.bson_value.proofs.Indexes.{index_is, no_index, far_index}
use Rattle.bson_value.proofs.index.index_of.Goals as goal

pub returns-then-are_digits-clause-some : goal.returns-then-are_digits-clause-some
returns-then-are_digits-clause-some c =
    let is = c.are_digits.ensures.0 c.if-are_digits.true in
    index_is c.args.name.now c.in-Some.number (rw c.as_bytes.ensures.value at c.in-Some.ensures.some) (rw c.as_bytes-in-Some.ensures.value at is)

pub returns-else-are_digits-clause-none : goal.returns-else-are_digits-clause-none
returns-else-are_digits-clause-none c = λ n e.
    absurd (no_index c.args.name.now c.in-Some.number n (rw c.as_bytes.ensures.value at c.in-Some.ensures.some)
    (λ d. let y = c.are_digits.ensures.1 (c.as_bytes-in-Some.ensures.value ∙ d) in let n = c.if-are_digits.false in cc) e)

pub returns-in-None-clause-none : goal.returns-in-None-clause-none
returns-in-None-clause-none c = λ n e. far_index c.args.name.now n (rw c.as_bytes.ensures.value at c.in-None.ensures.none) e
