-- The checksum of a namespace's documents: CRC-64 with the reflected ECMA constant. All bits are inverted before the first byte and behind the last.
use Rattle.std.specs.Prelude.{ℕ, ◌/◌, ◌%◌, List, [], ◌∷◌, ◌==◌, bit_xor, if◌then◌else◌}

-- c96c5795d7870f42
abbrev pub polynomial : ℕ
polynomial = 0xc96c5795d7870f42

abbrev pub all_bits : ℕ
all_bits = 0xffffffffffffffff

-- one bit is shifted out
unfoldable pub shift : ℕ → ℕ
shift r = if r % 2 == 1 then bit_xor (r / 2) polynomial else r / 2

-- one byte is taken in
unfoldable pub crc_step : ℕ → ℕ → ℕ
crc_step r b = shift (shift (shift (shift (shift (shift (shift (shift (bit_xor r b))))))))

abbrev pub crc_start : ℕ
crc_start = all_bits

-- these bytes are taken in, one after the other
abbrev pub crc_on : ℕ → List ℕ → ℕ
crc_on r [] = r
crc_on r (b ∷ bs) = crc_on (crc_step r b) bs

-- the checksum, where nothing more is taken in
unfoldable pub crc_end : ℕ → ℕ
crc_end r = bit_xor r all_bits

unfoldable pub crc_of : List ℕ → ℕ
crc_of bytes = crc_end (crc_on crc_start bytes)
