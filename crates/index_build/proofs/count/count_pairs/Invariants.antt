use Rattle.std.proofs.Common.{◌≡◌, None, take}
use Rattle.index_build.specs.Counting.{held}
use Rattle.index_build.specs.Faults.{first_parallel}
use Rattle.index_build.specs.Numbers.{pair_count}
use Rattle.index_build.specs.Repeated.{Watched}
use Rattle.index_build.proofs.count.count_pairs.Given as goal

abbrev pub invariant-loop-i : goal.invariant-loop-i
invariant-loop-i l =
    (l.count ≡ pair_count l.plan (held (take l.i l.docs)))
    × (first_parallel l.plan (held (take l.i l.docs)) ≡ None)
    × Watched l.plan l.repeats (held (take l.i l.docs))
