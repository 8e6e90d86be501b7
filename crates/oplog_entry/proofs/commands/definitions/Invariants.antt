use Rattle.std.proofs.Common.{◌≡◌, take}
use Rattle.std.specs.Prelude.{Ok, codes}
use Rattle.entry_model.specs.Reading.{definitions}
use Rattle.oplog_entry.proofs.commands.definitions.Given as goal

abbrev pub invariant-loop-item : goal.invariant-loop-item
invariant-loop-item l = definitions (codes "indexes") (take l.item-index l.items) ≡ Ok l.defs
