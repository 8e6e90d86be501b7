use Rattle.std.proofs.Common.{◌≡◌, length}
use Rattle.archive_format.specs.Crc.{crc_on}
use Rattle.archive_blocks.proofs.crc.Crc.add_by.Given as goal

abbrev pub invariant-sixteens : goal.invariant-sixteens
invariant-sixteens l = crc_on l.sum l.rest ≡ crc_on l.fn.self l.bytes

abbrev pub decreases-sixteens : goal.decreases-sixteens
decreases-sixteens l = length l.rest
