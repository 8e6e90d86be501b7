use Rattle.std.proofs.Common.{◌≡◌, ◌≤◌, length}
use Rattle.json_text.specs.Reading.{after_digits}
use Rattle.json_text.proofs.tokens.past_digits.Given as goal

abbrev pub invariant-digits : goal.invariant-digits
invariant-digits l = record {
  same : after_digits l.rest ≡ after_digits l.bytes;
  fits : length l.rest ≤ length l.bytes;
}

abbrev pub decreases-digits : goal.decreases-digits
decreases-digits l = length l.rest
