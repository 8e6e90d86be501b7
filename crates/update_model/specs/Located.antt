-- Where a path leads in a document.
use Rattle.std.specs.Prelude.{ℕ, List, [], ◌∷◌, length, nat_lt, Option, Some, None, if◌then◌else◌}
use Rattle.bson_value.specs.declared.value.Value.{Value, Value-F, Object, out-Value}
use Rattle.bson_value.specs.Digits.{index_of}
use Rattle.bson_value.specs.Place.{Shape, a_leaf, an_array, an_object, a_code, shape, child}
use Rattle.doc_path.specs.declared.parts.Part.{Part}
use Rattle.doc_path.specs.declared.parts.Part.TheVariants.{Name as name, Index as index}
use Rattle.doc_path.specs.Touch.{key_of, limit}
use Rattle.update_model.specs.Conflicts.{Path}

-- how a name of a path is taken: as a name in a document, as an index below 2,097,152 in an array, and else not at all
abbrev pub part_in : List ℕ → Option ℕ → Shape → Option Part
part_in k i an_object = Some (name k)
part_in k (Some n) an_array = if nat_lt n limit then Some (index n) else None
part_in k None an_array = None
part_in k i (a_leaf c) = None
part_in k i (a_code t) = None

abbrev pub part_at : List ℕ → Value → Option Part
part_at k v = part_in k (index_of k) (shape v)

-- the number of an array's elements
abbrev pub size_in : Value-F Value → ℕ
size_in (Value-F.Array vs) = length vs
size_in f = 0

unfoldable pub size : Value → ℕ
size v = size_in (out-Value v)

-- There: this value, under the last part behind the way. Missing: nothing is under that part, of a value with so many elements, and these names are behind it. Blocked: a name isn't taken
pub data Located : Type 0 where
  There : List Part → Part → Value → Located
  Missing : List Part → Part → ℕ → Path → Located
  Blocked : Located

abbrev pub within : Part → Located → Located
within p (There ws l c) = There (p ∷ ws) l c
within p (Missing ws l n ks) = Missing (p ∷ ws) l n ks
within p Blocked = Blocked

-- where the other names lead from the value under a part
abbrev pub further : Path → (Value → Located) → Part → Value → Located
further [] go p c = There [] p c
further (k ∷ ks) go p c = within p (go c)

abbrev pub located_under : (Part → Value → Located) → Path → Value → Part → Option Value → Located
located_under go ks v p None = Missing [] p (size v) ks
located_under go ks v p (Some c) = go p c

abbrev pub located_at : (Part → Value → Located) → Path → Value → Option Part → Located
located_at go ks v None = Blocked
located_at go ks v (Some p) = located_under go ks v p (child v (key_of p))

-- where a path leads from a value on
abbrev pub located : Path → Value → Located
located [] v = Blocked
located (k ∷ ks) v = located_at (further ks (located ks)) ks v (part_at k v)

-- the value behind the names, in documents of one field each
abbrev pub build : Path → Value → Value
build [] a = a
build (k ∷ ks) a = Object ((k, build ks a) ∷ [])
