use Rattle.std.proofs.Common.{◌≡◌, length}
use Rattle.tools_words.specs.Words.{first_row}
use Rattle.tools_words.proofs.words.first_row.Given as goal

abbrev pub invariant-rows : goal.invariant-rows
invariant-rows l = first_row l.fn.rows l.fn.word ≡ first_row l.rest l.fn.word

abbrev pub decreases-rows : goal.decreases-rows
decreases-rows l = length l.rest
