-- The value that a path names in a document, and the element that is this value.
-- A name leads to a field of a document. In an array it leads to the element whose index it writes, in digits without a zero in front.
use Rattle.std.specs.Prelude.{◌==◌, ℕ, List, [], ◌∷◌, Option, None, Some, if◌then◌else◌}
use Rattle.std.specs.Str.{bytes_eq}
use Rattle.containers.specs.Entries.{lookup}
use Rattle.bson_value.specs.Digits.{index_of}
use Rattle.bson_value.specs.Place.{nth, at_index}
use Rattle.bson_value.specs.declared.value.Value.{Value, out-Value}
use Rattle.bson_value.specs.declared.value.Value.TheOpen.{Value-F}
use Rattle.bson_view.specs.Parts.{Part, elements_in}

-- the value under a name. A code has none, also where it has a scope
abbrev pub value_under : Value-F Value → List ℕ → Option Value
value_under (Value-F.Object fs) k = lookup k fs
value_under (Value-F.Array vs) k = at_index vs (index_of k)
value_under _ k = None

-- the value that names lead to from this one
abbrev pub value_along : Option Value → List (List ℕ) → Option Value
value_along None ks = None
value_along (Some v) [] = Some v
value_along (Some v) (k ∷ ks) = value_along (value_under (out-Value v) k) ks

-- the value that a path names in a document
abbrev pub value_at : List (List ℕ) → List (List ℕ × Value) → Option Value
value_at [] fs = None
value_at (k ∷ ks) fs = value_along (lookup k fs) ks

-- the first element of a name
abbrev pub part_named : List ℕ → List Part → Option Part
part_named k [] = None
part_named k (p ∷ ps) = if bytes_eq p.name k then Some p else part_named k ps

abbrev pub part_at_index : List Part → Option ℕ → Option Part
part_at_index ps None = None
part_at_index ps (Some n) = nth ps n

-- the element under a name, in a value of this type
abbrev pub part_under : ℕ → List Part → List ℕ → Option Part
part_under tag ps k = if tag == 3 then part_named k ps else (if tag == 4 then part_at_index ps (index_of k) else None)

-- the element that names lead to from this one
abbrev pub part_along : Option Part → List (List ℕ) → Option Part
part_along None ks = None
part_along (Some p) [] = Some p
part_along (Some p) (k ∷ ks) = part_along (part_under p.tag (elements_in p.value) k) ks

-- the element that a path names in the bytes of a document
abbrev pub part_at : List (List ℕ) → List ℕ → Option Part
part_at [] bytes = None
part_at (k ∷ ks) bytes = part_along (part_named k (elements_in bytes)) ks
