use Rattle.std.proofs.Common.{◌≡◌, ◌+◌, length, []}
use Rattle.std.specs.Prelude.{fold, Ok}
use Rattle.tools_words.specs.Words.{step, texts_of}
use Rattle.tools_words.proofs.words.read_behind.Given as goal

abbrev pub invariant-words : goal.invariant-words
invariant-words l = record {
  place : l.at + length l.rest ≡ length l.fn.words + 1;
  behind : l.at ≡ 1 + length l.given.items;
  same : fold (step l.verb) (Ok []) (texts_of l.fn.words) ≡ fold (step l.verb) (Ok l.given.items) (texts_of l.rest);
}

abbrev pub decreases-words : goal.decreases-words
decreases-words l = length l.rest
