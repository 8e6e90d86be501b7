-- Parts of runs of bytes.
use Rattle.std.proofs.Common.{ℕ, zero, suc, ◌+◌, List, [], ◌∷◌, ◌++◌, length, arith}
use Rattle.std.proofs.lemmas.List.{get_or-append-add}
use Rattle.bson_value.specs.WellFormed.{AreBytes}

pub back_bytes : (a b : List ℕ) → AreBytes (a ++ b) → AreBytes b
back_bytes a b h i = omega (arith, h (length a + i), get_or-append-add a b i 0)

pub front_bytes : (a b : List ℕ) → AreBytes (a ++ b) → AreBytes a
front_bytes [] b h i = omega arith
front_bytes (x ∷ a) b h zero = h 0
front_bytes (x ∷ a) b h (suc i) = front_bytes a b (λ j. h (suc j)) i
