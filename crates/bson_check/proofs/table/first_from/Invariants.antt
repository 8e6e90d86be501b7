use Rattle.std.proofs.Common.{◌≡◌, ◌-◌, ◌<◌, ◌≤◌, ℕ, true, false, length, slice_index}
use Rattle.std.specs.Cmp.Lexicographic.{slice_cmp}
use Rattle.std.specs.Ordering.{nat_cmp, is_lt}
use Rattle.bson_check.specs.Blocks.{name_at}
use Rattle.bson_check.proofs.table.first_from.Given as goal

abbrev pub invariant-halves : goal.invariant-halves
invariant-halves l = record {
  ordered : l.low ≤ l.high;
  within : l.high ≤ length l.block;
  below : (i : ℕ) → i < l.low → is_lt (slice_cmp nat_cmp (name_at l.body (slice_index l.block i)) l.name) ≡ true;
  above : (i : ℕ) → l.high ≤ i → i < length l.block → is_lt (slice_cmp nat_cmp (name_at l.body (slice_index l.block i)) l.name) ≡ false;
}

abbrev pub decreases-halves : goal.decreases-halves
decreases-halves l = l.high - l.low
