use Rattle.std.proofs.Common.{◌≡◌, ◌+◌, ◌≤◌, length}
use Rattle.std.specs.Prelude.{min}
use Rattle.index_build.specs.Entries.{owned_of}
use Rattle.index_build.specs.Owned.{texts_count}
use Rattle.index_build.proofs.index.total.Given as goal

abbrev pub invariant-loop-entry : goal.invariant-loop-entry
invariant-loop-entry l =
    (min (l.count + texts_count (owned_of l.left)) 18446744073709551615 ≡ min (texts_count (owned_of l.entries.items)) 18446744073709551615)
    × (l.count ≤ 18446744073709551615)

abbrev pub decreases-loop-entry : goal.decreases-loop-entry
decreases-loop-entry l = length l.left
