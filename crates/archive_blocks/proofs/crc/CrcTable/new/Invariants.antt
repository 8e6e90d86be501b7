use Rattle.archive_blocks.specs.Shifts.{IsFilled}
use Rattle.archive_blocks.proofs.crc.CrcTable.new.Given as goal

abbrev pub invariant-rows : goal.invariant-rows
invariant-rows l = IsFilled l.i l.rows.items
