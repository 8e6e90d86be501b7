-- A set of names that may hold more than was put in: three bits for each slot of a name.
use Rattle.std.specs.Prelude.{◌≡◌, ℕ, ◌+◌, ◌-◌, ◌*◌, ◌/◌, ◌%◌, ◌^◌, List, [], ◌∷◌, length, slice_index}
use Rattle.std.specs.Int.{bit_at}
use Rattle.std.specs.Int.Bits.{bit_and, bit_or}

abbrev pub hash_on : ℕ → ℕ → List ℕ → ℕ
hash_on factor h [] = h
hash_on factor h (b ∷ bs) = hash_on factor ((h + b) % 18446744073709551616 * factor % 18446744073709551616) bs

unfoldable pub slot_of : ℕ → List ℕ → ℕ
slot_of factor name = hash_on factor 0 name

-- one of so many words, and three bits of it
abbrev pub word_of : ℕ → ℕ → ℕ
word_of words slot = bit_and (slot / 70368744177664) (words - 1)

abbrev pub first_bit : ℕ → ℕ
first_bit slot = slot / 1099511627776 % 64

abbrev pub second_bit : ℕ → ℕ
second_bit slot = slot / 17179869184 % 64

abbrev pub third_bit : ℕ → ℕ
third_bit slot = slot / 268435456 % 64

-- these three bits
abbrev pub mask_of : ℕ → ℕ
mask_of slot = bit_or (bit_or (2 ^ first_bit slot) (2 ^ second_bit slot)) (2 ^ third_bit slot)

abbrev pub HasBitsAt : ℕ → List ℕ → ℕ → Type 0
HasBitsAt i words slot = (bit_at (slice_index words i) (first_bit slot) ≡ 1) × (bit_at (slice_index words i) (second_bit slot) ≡ 1) × (bit_at (slice_index words i) (third_bit slot) ≡ 1)

abbrev pub HasBits : List ℕ → ℕ → Type 0
HasBits words slot = HasBitsAt (word_of (length words) slot) words slot

-- the bits of this name are set
unfoldable pub IsMarked : List ℕ → ℕ → List ℕ → Type 0
IsMarked words factor name = HasBits words (slot_of factor name)
