-- The depth of the parts of a value.
use Rattle.std.proofs.Common.{ℕ, zero, suc, ◌<◌, ◌≤◌, List, [], ◌∷◌, length, get_or, arith}
use denote.Param.Weighed.{most}

-- a measure of one of the elements is at most the largest
pub le-most : {X : Type 0} (f : X → ℕ) (xs : List X) (i : ℕ) (d : X) → i < length xs → f (get_or xs i d) ≤ most f xs
le-most f [] i d lt = absurd (omega arith)
le-most f (x ∷ xs) zero d lt = omega arith
le-most f (x ∷ xs) (suc i) d lt = omega (arith, le-most f xs i d (omega arith))
