use Rattle.std.proofs.Common.{◌≡◌, ◌≤◌, length}
use Rattle.tools_words.specs.Words.{patterns}
use Rattle.tools_words.proofs.filter.next_stars.Given as goal

abbrev pub invariant-options : goal.invariant-options
invariant-options l = record {
  same : patterns l.option l.given ≡ patterns l.option l.rest;
  fewer : length l.rest ≤ length l.given;
}

abbrev pub decreases-options : goal.decreases-options
decreases-options l = length l.rest
