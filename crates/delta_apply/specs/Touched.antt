-- The fields of a document to which touches go, and how they are brought back.
use Rattle.std.specs.Prelude.{ℕ, List, [], ◌∷◌, map, filter, Bool, false, not, if◌then◌else◌, Option, Some, None}
use Rattle.std.specs.List.{list_any}
use Rattle.std.specs.Str.{bytes_eq}
use Rattle.bson_value.specs.declared.value.Value.{Value}
use Rattle.doc_path.specs.declared.parts.Part.{Part}
use Rattle.doc_path.specs.declared.touches.Touch.{Touch}
use Rattle.doc_path.specs.declared.touches.Touch.TheVariants.{Set, Unset, Resize}
use Rattle.doc_path.specs.Touch.{key_of}

-- a name and its value
abbrev pub Field : Type 0
Field = List ℕ × Value

abbrev pub place_of : Touch → List Part
place_of (Set place a fresh) = place
place_of (Unset place) = place
place_of (Resize place n) = place

-- whether the first part of a place goes by the name
abbrev pub leads_to : List Part → List ℕ → Bool
leads_to [] name = false
leads_to (p ∷ ps) name = bytes_eq (key_of p) name

abbrev pub goes_to : List ℕ → Touch → Bool
goes_to name t = leads_to (place_of t) name

-- whether one of the touches goes to the field of this name
abbrev pub is_touched : List Touch → List ℕ → Bool
is_touched ts name = list_any (goes_to name) ts

-- the fields to which no touch goes
abbrev pub untouched : List Touch → List Field → List Field
untouched ts fs = filter (λ f. not (is_touched ts f.0)) fs

abbrev pub touched_field : List Touch → Field → Option Field
touched_field ts f = if is_touched ts f.0 then Some f else None

-- at the place of each field the field itself, where a touch goes to it
abbrev pub touched_fields : List Touch → List Field → List (Option Field)
touched_fields ts fs = map (touched_field ts) fs

-- the touched fields at their places, and the others between them in their order
abbrev pub joined : List (Option Field) → List Field → List Field
joined [] others = []
joined (Some f ∷ touched) others = f ∷ joined touched others
joined (None ∷ touched) [] = joined touched []
joined (None ∷ touched) (f ∷ others) = f ∷ joined touched others
