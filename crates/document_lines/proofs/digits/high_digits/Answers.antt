use Rattle.std.proofs.Common.{◌+◌, ◌/◌, slice_index, length-set, ◌∙◌, arith}
use Rattle.hex.specs.Hex.{lower_digits}
use Rattle.document_lines.proofs.HexDigits.{one_more}
use Rattle.document_lines.proofs.digits.high_digits.Goals as goal

pub digits-preserved : goal.digits-preserved
digits-preserved c = (
  length-set c.digits.digits c.digits.i c.digit.result ∙ c.digits.invariant.0,
  one_more (λ k. slice_index lower_digits (slice_index c.args.bytes.now (c.args.at + k) / 16)) c.digits.digits c.digits.i c.digit.result (omega (arith, c.digits.invariant.0)) c.digit.ensures c.digits.invariant.1,
)
