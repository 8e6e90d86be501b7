use Rattle.std.proofs.Common.{sym, ◌∙◌, ◌+◌, ◌*◌, ap, get_or, arith}
use Rattle.plain_json.proofs.Digits.{value_more, digits_more, digit_bounds}
use Rattle.plain_json.proofs.numbers.digits.Goals as goal

pub digits-preserved : goal.digits-preserved
digits-preserved c =
    let d = sym c.is_decimal.ensures ∙ c.if-not-is_decimal.false in
    let b = digit_bounds (get_or c.args.bytes.now c.digits.count 0) d in
    record {
      value = value_more c.args.bytes.now c.digits.count c.digits.number c.digits-test.true d c.digits.invariant.value ∙ ap (λ n. c.digits.number * 10 + n) (sym c.from.ensures);
      digits = digits_more c.args.bytes.now c.digits.count c.digits-test.true d c.digits.invariant.digits;
      within = omega (arith, c.digits-test.true);
      bound = omega (arith, c.from.ensures, b.0, b.1, c.if-number-gt99999999.false);
    }
