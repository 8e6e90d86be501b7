use Rattle.std.proofs.Common.{◌≡◌, take}
use Rattle.oplog_entry.proofs.commands.copy_fields.Given as goal

abbrev pub invariant-loop-name : goal.invariant-loop-name
invariant-loop-name l = l.entries.items ≡ take l.name-index l.fields
