-- Touches in the first form: each index is the name of its digits, no field is new, and a Set of the whole array stands in place of its length.
use Rattle.std.specs.Prelude.{ℕ, List, map, false, Option, Some, None}
use Rattle.bson_value.specs.declared.value.Value.{Value}
use Rattle.bson_value.specs.Digits.{digits}
use Rattle.doc_path.specs.declared.parts.Part.{Part}
use Rattle.doc_path.specs.declared.parts.Part.TheVariants.{Name as name, Index as index}
use Rattle.doc_path.specs.declared.parts.Form.{Form}
use Rattle.doc_path.specs.declared.parts.Form.TheVariants.{V1, V2}
use Rattle.doc_path.specs.declared.touches.Touch.{Touch}
use Rattle.doc_path.specs.declared.touches.Touch.TheVariants.{Set as Sets, Unset as Unsets, Resize as Resizes}
use Rattle.doc_path.specs.Touch.{Touch as Played, Set, Unset, Resize}
use Rattle.doc_path.specs.Ways.{value_in}

abbrev pub as_name : Part → Part
as_name (name k) = name k
as_name (index n) = name (digits n)

abbrev pub as_names : List Part → List Part
as_names ps = map as_name ps

-- a touch with names for its indexes
abbrev pub named : Played → Played
named (Set ps p a) = Set (as_names ps) (as_name p) a
named (Unset ps p) = Unset (as_names ps) (as_name p)
named (Resize ps n) = Resize (as_names ps) n

abbrev pub set_or_length : List Part → ℕ → Option Value → Touch
set_or_length place n None = Resizes place n
set_or_length place n (Some a) = Sets place a false

-- z is the document after the update
abbrev pub first_form : Value → Touch → Touch
first_form z (Sets place a fresh) = Sets (as_names place) a false
first_form z (Unsets place) = Unsets (as_names place)
first_form z (Resizes place n) = set_or_length (as_names place) n (value_in place z)

-- the touches of an update in a form
abbrev pub in_form : Form → Value → List Touch → List Touch
in_form V1 z ts = map (first_form z) ts
in_form V2 z ts = ts
