-- Places as lists of names, and when one is above another.
use Rattle.std.specs.Prelude.{ℕ, ◌≡◌, List, ◌∷◌, ◌++◌, map}
use Rattle.bson_value.specs.Place.{Place}
use Rattle.doc_path.specs.declared.parts.Part.{Part}
use Rattle.doc_path.specs.Touch.{key_of}

-- the names of a place's parts
abbrev pub keys : List Part → Place
keys ps = map key_of ps

-- the second place goes on from the first by one part at least
abbrev pub IsAbove : Place → Place → Type 0
IsAbove p q = (k : List ℕ) × (rest : Place) × (q ≡ p ++ (k ∷ rest))
