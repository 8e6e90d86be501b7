-- The rules of a filter.
use Rattle.std.specs.Prelude.{⊤, ◌≡◌, List, [], ◌∷◌, length}
use Rattle.ns_patterns.specs.Literals.{Literals}

-- patterns that take, patterns that leave, and pairs that rename from the first to the second
pub record Rules : Type 0 where
  pub include : List Literals
  pub exclude : List Literals
  pub renames : List (Literals × Literals)

-- the patterns of each pair have as many stars
abbrev pub HaveSameStars : List (Literals × Literals) → Type 0
HaveSameStars [] = ⊤
HaveSameStars (p ∷ ps) = (length p.0.behind ≡ length p.1.behind) × HaveSameStars ps
