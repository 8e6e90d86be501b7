use Rattle.bson_value.proofs.Indexes.{over_mul, over_add}
use Rattle.std.proofs.Common.{arith}
use Rattle.bson_value.proofs.index.number_of.Goals as goal

pub returns-in_err-checked_mul-clause-none : goal.returns-in_err-checked_mul-clause-none
returns-in_err-checked_mul-clause-none c =
    let h = c.in_err-checked_mul.ensures in
    rw c.from_residual.ensures (over_mul c.args.bytes.now c.loop-byte.byte-index c.loop-byte.number c.loop-byte-test.true c.loop-byte.invariant (omega arith))

pub returns-in_err-number-clause-none : goal.returns-in_err-number-clause-none
returns-in_err-number-clause-none c =
    let h = c.in_err-number.ensures in
    let m = c.in_ok-checked_mul.ensures in
    rw c.from_residual-in_err-number.ensures
    (over_add c.args.bytes.now c.loop-byte.byte-index c.loop-byte.number c.in_ok-checked_mul.field-0 c.saturating_sub-digit.result c.loop-byte-test.true c.loop-byte.invariant m.1 c.saturating_sub-digit.ensures (omega arith))
