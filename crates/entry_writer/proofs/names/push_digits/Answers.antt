use Rattle.std.proofs.Common.{arith, sym}
use Rattle.bson_value.proofs.Digits.{digits-is_decimal}
use Rattle.entry_writer.proofs.names.push_digits.Goals as goal

pub returns : goal.returns
returns c = rw (digits-is_decimal c.args.at (omega (arith, c.ranges.at.fits)), sym c.format.ensures.text) c.push_str.ensures.ok
