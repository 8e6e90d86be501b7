-- Sieves for names that stand twice: what they keep, and that none of these is lost.
use Rattle.std.specs.Prelude.{◌≡◌, ℕ, ◌⊎◌, Bool, true, false, List, [], ◌∷◌, length}
use Rattle.bson_check.specs.Passing.{Path, has}
use Rattle.bson_check.specs.Slots.{IsMarked}

-- the name is one of these, and once more behind that
abbrev pub StandsTwice : List ℕ → List (List ℕ) → Type 0
StandsTwice n [] = ⊥
StandsTwice n (m ∷ ms) = ((m ≡ n) × (has n ms ≡ true)) ⊎ StandsTwice n ms

-- what is so of each name that stands twice among the elements before these last bytes
abbrev pub OfRepeats : (List ℕ → Type 0) → List ℕ → ℕ → Type 0
OfRepeats P body left = (ns : List (List ℕ)) → (to : List ℕ) → Path ns body to → length to ≡ left → (n : List ℕ) → StandsTwice n ns → P n

-- a sieve keeps every name, or those that are marked
abbrev pub IsKept : Bool → ℕ → List ℕ → List ℕ → Type 0
IsKept every factor words name = every ≡ false → IsMarked words factor name
