use Rattle.std.proofs.Common.{◌≡◌, ◌++◌, take}
use Rattle.oplog_entry.proofs.delta.place_of.Given as goal

abbrev pub invariant-loop-other : goal.invariant-loop-other
invariant-loop-other l = l.place ≡ l.initial.place ++ take l.other-index l.others
