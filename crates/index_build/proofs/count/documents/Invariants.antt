use Rattle.std.proofs.Common.{◌≡◌, ◌++◌}
use Rattle.index_build.specs.Counting.{held_values}
use Rattle.index_build.proofs.count.documents.Given as goal

abbrev pub invariant-loop-document : goal.invariant-loop-document
invariant-loop-document l = held_values l.documents.items ++ l.left ≡ l.initial.left
