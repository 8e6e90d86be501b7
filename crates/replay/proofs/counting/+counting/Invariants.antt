use Rattle.std.proofs.Common.{◌≡◌, ◌-◌, ◌^◌, min, map, take}
use Rattle.replay.specs.Moves.{item_count, total}
use Rattle.replay.proofs.counting.+counting.Given as goal

abbrev pub invariant-count_all-loop-entry : goal.invariant-count_all-loop-entry
invariant-count_all-loop-entry l = l.count ≡ min (total (map item_count (take l.entry-index l.entries))) (2 ^ 128 - 1)
