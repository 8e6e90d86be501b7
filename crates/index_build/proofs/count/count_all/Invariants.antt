use Rattle.std.proofs.Common.{◌≡◌, ◌++◌, map as each}
use Rattle.coll_state.specs.Rows.{state_of}
use Rattle.coll_state.specs.Walks.{names_left}
use Rattle.index_build.specs.Faults.{fault_among, fault}
use Rattle.index_build.specs.Numbers.{counts}
use Rattle.index_build.specs.Sorted.{numbers_told}
use Rattle.index_build.proofs.Names.{counted}
use Rattle.index_build.proofs.count.count_all.Given as goal

abbrev pub invariant-loop-ns : goal.invariant-loop-ns
invariant-loop-ns l =
    (numbers_told l.collections.items ++ each (counted (state_of l.state)) (names_left l.left) ≡ counts (state_of l.state))
    × (fault_among (state_of l.state) (names_left l.left) ≡ fault (state_of l.state))
