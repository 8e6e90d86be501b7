use Rattle.std.proofs.Common.{◌≡◌, ◌+◌, ◌++◌, length}
use mathlib.Core.List.{reverse}
use Rattle.sorted_list.proofs.chunk.Chunk.halve.Given as goal

abbrev pub invariant-loop : goal.invariant-loop
invariant-loop g l = (l.self ++ reverse l.upper ≡ l.fn.self) × (length l.self + l.counter ≡ 128) × (length l.upper ≡ l.counter)
