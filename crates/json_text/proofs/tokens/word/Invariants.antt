use Rattle.std.proofs.Common.{◌≡◌, ◌≤◌, length, drop}
use Rattle.json_text.specs.Reading.{word_at}
use Rattle.json_text.proofs.tokens.word.Given as goal

abbrev pub invariant-loop-letter : goal.invariant-loop-letter
invariant-loop-letter l = record {
  same : word_at (drop l.letter-index l.word) l.start l.end l.rest ≡ word_at l.word l.start l.end l.bytes;
  fits : length l.rest ≤ length l.bytes;
}
