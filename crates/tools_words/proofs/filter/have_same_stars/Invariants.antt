use Rattle.std.proofs.Common.{◌≡◌, length}
use Rattle.std.specs.List.{zip}
use Rattle.tools_words.specs.Words.{patterns, same_stars}
use Rattle.tools_words.proofs.filter.have_same_stars.Given as goal

abbrev pub invariant-pairs : goal.invariant-pairs
invariant-pairs l = same_stars (zip (patterns l.option l.given) (patterns l.other l.given)) ≡ same_stars (zip (patterns l.option l.left) (patterns l.other l.right))

abbrev pub decreases-pairs : goal.decreases-pairs
decreases-pairs l = length l.left
