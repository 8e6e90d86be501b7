use Rattle.std.proofs.Common.{take}
use Rattle.index_build.specs.Counting.{held}
use Rattle.kept_indexes.specs.Kept.{keyed, plans_of, AreOver}
use Rattle.kept_indexes.proofs.collection.indexes_over.Given as goal

abbrev pub invariant-loop-def : goal.invariant-loop-def
invariant-loop-def l = AreOver (keyed (held l.docs)) l.indexes (plans_of (take l.def-index l.defs))
