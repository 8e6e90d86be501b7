use Rattle.std.proofs.Common.{◌≡◌, ◌≤◌, length}
use Rattle.json_text.specs.Reading.{after_space}
use Rattle.plain_json.proofs.tokens.space.Given as goal

abbrev pub invariant-spaces : goal.invariant-spaces
invariant-spaces l = record {
  same : after_space l.rest ≡ after_space l.bytes;
  fits : length l.rest ≤ length l.bytes;
}

abbrev pub decreases-spaces : goal.decreases-spaces
decreases-spaces l = length l.rest
