use Rattle.std.proofs.Common.{◌≡◌, length}
use Rattle.capped_oplog.specs.Ring.{trimmed_down}
use Rattle.archive_rows.proofs.ring.trim.Given as goal

abbrev pub invariant-trims : goal.invariant-trims
invariant-trims l = record {
  left : trimmed_down l.ring.limit l.ring.entries ≡ trimmed_down l.fn.ring.limit l.fn.ring.entries;
  cap : l.ring.cap ≡ l.fn.ring.cap;
  limit : l.ring.limit ≡ l.fn.ring.limit;
}

abbrev pub decreases-trims : goal.decreases-trims
decreases-trims l = length l.ring.entries
