use Rattle.std.proofs.Common.{◌≡◌, ◌++◌, ◌-◌, length, take, drop}
use Rattle.std.specs.Prelude.{nat_le}
use Rattle.dump_run.specs.Rings.{until, bytes_of}
use Rattle.dump_run.proofs.window.add_entries.Given as goal

abbrev pub invariant-entries : goal.invariant-entries
invariant-entries l = record {
  entries : l.out ++ bytes_of (take l.left (until l.end (drop l.at l.oplog.entries))) ≡ l.fn.out ++ bytes_of (take l.n (until l.end (drop l.first l.oplog.entries)));
  last : nat_le (length (until l.end (drop l.at l.oplog.entries))) l.left ≡ nat_le (length (until l.end (drop l.first l.oplog.entries))) l.n;
}

abbrev pub decreases-entries : goal.decreases-entries
decreases-entries l = length l.oplog.entries - l.at
