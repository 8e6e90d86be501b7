use Rattle.std.proofs.Common.{ap, ◌∙◌, ◌+◌, ℕ}
use Rattle.bson_value.proofs.Digits.{length-decimal_one, length-decimal_step}
use Rattle.bson_value.proofs.size.+digit_count.Goals as goal

pub returns-then-n-lt10-clause-digits : goal.returns-then-n-lt10-clause-digits
returns-then-n-lt10-clause-digits t c = length-decimal_one _ c.if-n-lt10.true

pub returns-else-n-lt10-clause-digits : goal.returns-else-n-lt10-clause-digits
returns-else-n-lt10-clause-digits t c = ap (λ (k : ℕ). k + 1) c.digit_count.ensures.digits ∙ length-decimal_step c.args.n c.if-n-lt10.false c.ranges.n.fits
