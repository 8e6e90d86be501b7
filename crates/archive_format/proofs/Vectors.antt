-- The checksum's check value, and that of nothing.
use Rattle.std.proofs.Common.{◌≡◌, [], refl}
use Rattle.std.specs.Prelude.{codes}
use Rattle.archive_format.specs.Crc.{shift, crc_step, crc_end, crc_of}

digits_checked : crc_of (codes "123456789") ≡ 0x995dc9bbdf1939fa
unfolding shift crc_step crc_end crc_of
digits_checked = refl

nothing_checked : crc_of [] ≡ 0
unfolding crc_end crc_of
nothing_checked = refl
