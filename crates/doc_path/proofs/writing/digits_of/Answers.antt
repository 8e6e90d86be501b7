use Rattle.std.proofs.Common.{arith, sym}
use Rattle.bson_value.proofs.Digits.{digits-is_decimal}
use Rattle.doc_path.proofs.Decimals.{decimal-no_zero}
use Rattle.doc_path.proofs.writing.digits_of.Goals as goal

pub of_text-requires : goal.of_text-requires
of_text-requires c = rw (c.as_str.ensures.value, c.in_ok-text.ensures.ok) (decimal-no_zero c.args.at (omega (arith, c.ranges.at.fits)))

pub returns : goal.returns
returns c = rw (digits-is_decimal c.args.at (omega (arith, c.ranges.at.fits)), sym c.in_ok-text.ensures.ok, sym c.as_str.ensures.value) c.of_text.ensures
