use Rattle.std.proofs.Common.{◌≡◌, drop}
use Rattle.archive_format.specs.Crc.{crc_on}
use Rattle.archive_blocks.proofs.crc.CrcTable.add_bytes.Given as goal

abbrev pub invariant-bytes : goal.invariant-bytes
invariant-bytes l = crc_on l.left (drop l.byte-index l.bytes) ≡ crc_on l.sum l.bytes
