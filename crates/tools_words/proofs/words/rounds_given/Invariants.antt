use Rattle.std.proofs.Common.{◌≡◌, length}
use Rattle.tools_words.specs.Words.{rounds_given}
use Rattle.tools_words.proofs.words.rounds_given.Given as goal

abbrev pub invariant-options : goal.invariant-options
invariant-options l = rounds_given l.fn.given ≡ rounds_given l.rest

abbrev pub decreases-options : goal.decreases-options
decreases-options l = length l.rest
