use Rattle.std.proofs.Common.{◌≡◌, length}
use Rattle.capped_oplog.specs.Ring.{trimmed_down}
use Rattle.store_log.proofs.log.trim_all.Given as goal

abbrev pub invariant-trims : goal.invariant-trims
invariant-trims l = (trimmed_down l.initial.oplog.limit l.initial.oplog.entries ≡ trimmed_down l.oplog.limit l.oplog.entries) × (l.oplog.limit ≡ l.initial.oplog.limit) × (l.oplog.cap ≡ l.initial.oplog.cap)

abbrev pub decreases-trims : goal.decreases-trims
decreases-trims l = length l.oplog.entries
