use Rattle.std.proofs.Common.{sym, ◌∙◌, arith, ap, length}
use Rattle.std.proofs.lemmas.List.{nil_from_length}
use Rattle.json_text.proofs.Skips.{digit_skips, digit_stops, digit_ends}
use Rattle.json_text.proofs.tokens.past_digits.Goals as goal

pub digits-preserved : goal.digits-preserved
digits-preserved c = record {
  same = digit_skips c.digits.rest.now c.in-Some.after.now c.in-Some.b.now c.in-Some.ensures.cases.0 (sym c.is_decimal.ensures ∙ c.if-not-is_decimal.false) ∙ c.digits.invariant.same;
  fits = omega (arith, c.digits.invariant.fits, ap length c.in-Some.ensures.cases.0);
}

pub returns-then-not-is_decimal-clause-value : goal.returns-then-not-is_decimal-clause-value
returns-then-not-is_decimal-clause-value c =
    sym (digit_stops c.digits.rest.now c.in-Some.after.now c.in-Some.b.now c.in-Some.ensures.cases.0 (sym c.is_decimal.ensures ∙ c.if-not-is_decimal.true)) ∙ c.digits.invariant.same

pub returns-clause-value : goal.returns-clause-value
returns-clause-value c = sym (digit_ends c.digits.rest.now (nil_from_length _ c.in_default.ensures.cases)) ∙ c.digits.invariant.same
