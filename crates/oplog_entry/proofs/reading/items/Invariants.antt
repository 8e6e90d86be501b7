use Rattle.std.proofs.Common.{◌≡◌, take}
use Rattle.std.specs.Prelude.{Ok}
use Rattle.entry_model.specs.Reading.{items}
use Rattle.oplog_entry.proofs.reading.items.Given as goal

abbrev pub invariant-loop-value : goal.invariant-loop-value
invariant-loop-value l = items l.ts (take l.value-index l.values) ≡ Ok l.entries
