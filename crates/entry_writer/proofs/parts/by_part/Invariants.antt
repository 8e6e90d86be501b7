use Rattle.std.proofs.Common.{◌≡◌, take}
use Rattle.entry_writer.specs.Edits.{edits_in}
use Rattle.entry_writer.specs.Groups.{groups_in, grouped, IsIndex}
use Rattle.entry_writer.proofs.parts.by_part.Given as goal

abbrev pub invariant-loop-edit : goal.invariant-loop-edit
invariant-loop-edit l = (groups_in l.groups.items ≡ grouped l.at (edits_in (take l.edit-index l.edits))) × IsIndex l.index (groups_in l.groups.items)
