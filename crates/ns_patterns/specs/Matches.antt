-- Which names a pattern takes, and what a name is renamed to.
use Rattle.std.specs.Prelude.{◌≡◌, ℕ, ◌<◌, List, [], ◌∷◌, ◌++◌, length, ◌⊎◌, ⊤}
use Rattle.ns_patterns.specs.Literals.{Literals}

-- a text for each star, and the literal behind it
abbrev pub filled_behind : List (List ℕ) → List (List ℕ) → List ℕ
filled_behind [] ts = []
filled_behind (l ∷ ls) [] = l ++ filled_behind ls []
filled_behind (l ∷ ls) (t ∷ ts) = t ++ (l ++ filled_behind ls ts)

-- the name that these texts make, one for each star
abbrev pub filled : Literals → List (List ℕ) → List ℕ
filled p ts = p.first ++ filled_behind p.behind ts

pub record IsMatch (p : Literals) (name : List ℕ) (ts : List (List ℕ)) : Type 0 where
  pub one_each : length ts ≡ length p.behind
  pub makes : name ≡ filled p ts

abbrev pub Matches : Literals → List ℕ → Type 0
Matches p name = (ts : List (List ℕ)) × IsMatch p name ts

-- the first star has a shorter text, or one as long and those behind it are no longer
abbrev pub NoLonger : List (List ℕ) → List (List ℕ) → Type 0
NoLonger [] us = ⊤
NoLonger (t ∷ ts) [] = ⊥
NoLonger (t ∷ ts) (u ∷ us) = (length t < length u) ⊎ ((length t ≡ length u) × NoLonger ts us)

pub record IsShortest (p : Literals) (name : List ℕ) (ts : List (List ℕ)) : Type 0 where
  pub is : IsMatch p name ts
  pub least : (us : List (List ℕ)) → IsMatch p name us → NoLonger ts us

-- the stars of the second pattern get what those of the first stand for
abbrev pub Renamed : Literals → Literals → List ℕ → List ℕ → Type 0
Renamed from to name new = (ts : List (List ℕ)) × IsShortest from name ts × (new ≡ filled to ts)
