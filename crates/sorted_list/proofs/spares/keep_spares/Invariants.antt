use Rattle.std.proofs.Common.{◌≡◌, ◌+◌, ◌≤◌, length}
use Rattle.std.specs.Vec.{vec_capacity}
use Rattle.sorted_list.specs.Chunks.{AreEmpty}
use Rattle.sorted_list.proofs.spares.keep_spares.Given as goal

abbrev pub invariant-loop : goal.invariant-loop
invariant-loop g l =
    (l.chunks.items ≡ l.initial.chunks.items)
    × AreEmpty l.spares.items
    × (length l.initial.spares.items ≤ length l.spares.items)
    × (l.counter ≡ length l.spares.items)
    × (length l.initial.chunks.items + l.count ≤ vec_capacity l.chunks)
    × (length l.initial.chunks.items + l.count ≤ vec_capacity l.spares)
