use Rattle.std.proofs.Common.{◌≡◌, ◌++◌, length}
use Rattle.coll_state.specs.Stock.{named}
use Rattle.index_build.specs.Counting.{held}
use Rattle.index_build.specs.Faults.{definitions_fault}
use Rattle.index_build.specs.Numbers.{numbers_of}
use Rattle.index_build.proofs.count.count_definitions.Given as goal

abbrev pub invariant-loop-def : goal.invariant-loop-def
invariant-loop-def l =
    (l.numbers.items ++ numbers_of (named l.left) (held l.docs) ≡ numbers_of (named l.defs) (held l.docs))
    × (definitions_fault l.ns (named l.left) (held l.docs) ≡ definitions_fault l.ns (named l.defs) (held l.docs))

abbrev pub decreases-loop-def : goal.decreases-loop-def
decreases-loop-def l = length l.left
