-- The grammar of JSON numbers.
use Rattle.std.specs.Prelude.{◌≡◌, ◌≢◌, ◌⊎◌, ℕ, ◌<◌, ◌&&◌, Bool, true, nat_lt, List, [], ◌∷◌, ◌++◌, length}
use Rattle.std.specs.List.{list_all}

abbrev pub is_digit : ℕ → Bool
is_digit b = nat_lt 47 b && nat_lt b 58

-- one digit or more
pub record AreDigits (ds : List ℕ) : Type 0 where
  pub some : 0 < length ds
  pub digits : list_all is_digit ds ≡ true

-- 0, or digits that begin with another one
abbrev pub IsWhole : List ℕ → Type 0
IsWhole [] = ⊥
IsWhole (d ∷ ds) = ((d ≡ 48) × (ds ≡ [])) ⊎ ((d ≢ 48) × AreDigits (d ∷ ds))

-- a point and digits, or nothing
abbrev pub IsFraction : List ℕ → Type 0
IsFraction f = (f ≡ []) ⊎ ((ds : List ℕ) × AreDigits ds × (f ≡ 46 ∷ ds))

abbrev pub IsSign : List ℕ → Type 0
IsSign s = (s ≡ []) ⊎ (s ≡ 43 ∷ []) ⊎ (s ≡ 45 ∷ [])

-- an e, a sign or none, and digits, or nothing
abbrev pub IsExponent : List ℕ → Type 0
IsExponent x = (x ≡ []) ⊎ ((mark : ℕ) × (sign ds : List ℕ) × ((mark ≡ 101) ⊎ (mark ≡ 69)) × IsSign sign × AreDigits ds × (x ≡ mark ∷ (sign ++ ds)))

abbrev pub IsMinus : List ℕ → Type 0
IsMinus m = (m ≡ []) ⊎ (m ≡ 45 ∷ [])

abbrev pub IsNumber : List ℕ → Type 0
IsNumber t = (minus whole fraction exponent : List ℕ) × IsMinus minus × IsWhole whole × IsFraction fraction × IsExponent exponent × (t ≡ minus ++ (whole ++ (fraction ++ exponent)))
