-- Runs of bytes, byte by byte.
use Rattle.std.proofs.Common.{ℕ, zero, suc, ◌<◌, List, [], ◌∷◌, ◌++◌, arith}
use Rattle.std.specs.List.{AllByRecursion}
use Rattle.std.specs.Int.{byte_at, bytes_low_first}
use Rattle.bson_value.specs.WellFormed.{AreBytes}

-- each is below 256
abbrev pub Bytes : List ℕ → Type 0
Bytes bs = AllByRecursion (λ b. b < 256) bs

pub by_index : (bs : List ℕ) → Bytes bs → AreBytes bs
by_index [] h i = omega arith
by_index (b ∷ bs) h zero = h.0
by_index (b ∷ bs) h (suc i) = by_index bs h.1 i

pub by_recursion : (bs : List ℕ) → AreBytes bs → Bytes bs
by_recursion [] h = tt
by_recursion (b ∷ bs) h = (h 0, by_recursion bs (λ i. h (suc i)))

pub join : (a b : List ℕ) → Bytes a → Bytes b → Bytes (a ++ b)
join [] b h g = g
join (x ∷ a) b h g = (h.0, join a b h.1 g)

pub zero_last : (a : List ℕ) → Bytes a → Bytes (a ++ 0 ∷ [])
zero_last a h = join a (0 ∷ []) h (omega arith, tt)

digit_small : (i n : ℕ) → byte_at i n < 256
digit_small zero n = omega arith
digit_small (suc i) n = omega arith

-- the bytes of a number
pub number_bytes : (i k n : ℕ) → Bytes (bytes_low_first i k n)
number_bytes i zero n = tt
number_bytes i (suc k) n = (digit_small i n, number_bytes (suc i) k n)
