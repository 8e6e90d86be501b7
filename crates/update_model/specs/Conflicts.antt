-- When two paths conflict.
use Rattle.std.specs.Prelude.{◌≡◌, ℕ, Bool, true, false, ◌&&◌, ◌||◌, List, [], ◌∷◌}
use Rattle.std.specs.List.{list_any}
use Rattle.std.specs.Str.{bytes_eq}

-- a path: the names on the way
abbrev pub Path : Type 0
Path = List (List ℕ)

-- whether the second path begins with the first
abbrev pub begins : Path → Path → Bool
begins [] q = true
begins (k ∷ p) [] = false
begins (k ∷ p) (j ∷ q) = bytes_eq k j && begins p q

-- two paths conflict where one begins with the other
abbrev pub conflict : Path → Path → Bool
conflict p q = begins p q || begins q p

-- no two of the paths conflict
abbrev pub AreApart : List Path → Type 0
AreApart [] = Unit {0}
AreApart (p ∷ ps) = (list_any (conflict p) ps ≡ false) × AreApart ps
