use Rattle.std.proofs.Common.{◌≡◌, ◌*◌, ◌%◌, ◌^◌}
use Rattle.archive_blocks.specs.Shifts.{shifts}
use Rattle.archive_blocks.proofs.crc.leave.Given as goal

abbrev pub invariant-halves : goal.invariant-halves
invariant-halves l = l.sum ≡ shifts 64 (l.number % 2 ^ (4 * l.j))
