-- Texts of which none begins with another.
use Rattle.std.specs.Prelude.{◌≡◌, ℕ, Bool, true, false, ◌&&◌, ◌||◌, ◌==◌, List, [], ◌∷◌}
use Rattle.std.specs.List.{list_any}
use Rattle.std.specs.Str.{bytes_eq}

abbrev pub Text : Type 0
Text = List ℕ

-- whether the second text begins with the first
abbrev pub starts : Text → Text → Bool
starts [] t = true
starts (b ∷ s) [] = false
starts (b ∷ s) (c ∷ t) = (b == c) && starts s t

-- one of them begins with the other
abbrev pub clash : Text → Text → Bool
clash s t = starts s t || starts t s

abbrev pub has : List Text → Text → Bool
has ts s = list_any (bytes_eq s) ts

-- none of the texts begins with another one
abbrev pub IsPrefixFree : List Text → Type 0
IsPrefixFree ts = (s t : Text) → has ts s ≡ true → has ts t ≡ true → starts s t ≡ true → s ≡ t

-- whether one of the texts is a front of this one
abbrev pub has_front : List Text → Text → Bool
has_front ts t = list_any (λ s. starts s t) ts

-- the second text is one of these and begins with the first
abbrev pub IsBehind : Text → Text → List Text → Type 0
IsBehind s t ts = (has ts t ≡ true) × (starts s t ≡ true)
