use Rattle.std.proofs.Common.{◌≡◌, drop}
use Rattle.capped_oplog.specs.Ring.{after_pushes}
use Rattle.archive_rows.specs.Rows.{entries_from}
use Rattle.archive_rows.proofs.ring.fill.Given as goal

abbrev pub invariant-loop-size : goal.invariant-loop-size
invariant-loop-size l = record {
  pushed : after_pushes l.ring.cap l.ring.limit l.ring.entries (entries_from l.inc (drop l.size-index l.sizes))
      ≡ after_pushes l.fn.ring.cap l.fn.ring.limit l.fn.ring.entries (entries_from 0 l.sizes);
  cap : l.ring.cap ≡ l.fn.ring.cap;
  limit : l.ring.limit ≡ l.fn.ring.limit;
}
