use Rattle.std.proofs.Common.{◌≡◌, ℕ, ◌+◌, ◌/◌, ◌<◌, length, slice_index}
use Rattle.hex.specs.Hex.{lower_digits}
use Rattle.document_lines.proofs.digits.high_digits.Given as goal

abbrev pub invariant-digits : goal.invariant-digits
invariant-digits l = (length l.digits ≡ 16) × ((k : ℕ) → k < l.i → slice_index l.digits k ≡ slice_index lower_digits (slice_index l.bytes (l.at + k) / 16))
