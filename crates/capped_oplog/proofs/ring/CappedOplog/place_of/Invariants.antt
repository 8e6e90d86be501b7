use Rattle.std.proofs.Common.{ℕ, ◌-◌, ◌<◌, ◌≤◌, length}
use Rattle.capped_oplog.specs.Ring.{stamp_at, AreRising}
use Rattle.capped_oplog.proofs.ring.CappedOplog.place_of.Given as goal

abbrev pub invariant-halves : goal.invariant-halves
invariant-halves l = record {
  ordered : l.low ≤ l.high;
  within : l.high ≤ length l.self.entries;
  rising : AreRising l.self.entries;
  below : (i : ℕ) → i < l.low → stamp_at l.self.entries i < l.wanted;
  above : (i : ℕ) → l.high ≤ i → i < length l.self.entries → l.wanted < stamp_at l.self.entries i;
}

abbrev pub decreases-halves : goal.decreases-halves
decreases-halves l = l.high - l.low
