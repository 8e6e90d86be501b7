use Rattle.std.proofs.Common.{◌≡◌, length}
use Rattle.tools_words.specs.Words.{limit_of}
use Rattle.tools_words.proofs.words.limit_of.Given as goal

abbrev pub invariant-options : goal.invariant-options
invariant-options l = limit_of l.fn.given ≡ limit_of l.rest

abbrev pub decreases-options : goal.decreases-options
decreases-options l = length l.rest
