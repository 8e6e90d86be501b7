-- Which touches replay leaves at once, said of their places and lengths.
use Rattle.std.specs.Prelude.{ℕ, ◌≡◌, ◌≤◌, ◌⊎◌, List, [], ◌∷◌, ◌++◌, codes}
use Rattle.std.specs.List.{Contains}
use Rattle.doc_path.specs.declared.parts.Part.{Part}
use Rattle.doc_path.specs.declared.parts.Part.TheVariants.{Name as name, Index as index}
use Rattle.doc_path.specs.Touch.{Touch, Set, Unset, Resize, limit}

-- the parts of its place
abbrev pub place_of : Touch → List Part
place_of (Set ps p a) = ps ++ (p ∷ [])
place_of (Unset ps p) = ps ++ (p ∷ [])
place_of (Resize ps n) = ps

abbrev pub BeginsWithId : List Part → Type 0
BeginsWithId ps = (rest : List Part) × (ps ≡ name (codes "_id") ∷ rest)

abbrev pub HasFarIndex : List Part → Type 0
HasFarIndex ps = (n : ℕ) × (limit ≤ n) × Contains ps (index n)

abbrev pub IsFarLength : Touch → Type 0
IsFarLength (Set ps p a) = ⊥
IsFarLength (Unset ps p) = ⊥
IsFarLength (Resize ps n) = limit ≤ n

-- its place begins with the name `_id`, one of its parts is an index that is too large, or its length is
abbrev pub IsLeftAtOnce : Touch → Type 0
IsLeftAtOnce t = BeginsWithId (place_of t) ⊎ (HasFarIndex (place_of t) ⊎ IsFarLength t)
