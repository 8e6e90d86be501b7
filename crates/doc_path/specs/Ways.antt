-- The way of a place through a document, and what is done at its end.
use Rattle.std.specs.Prelude.{ℕ, ◌≡◌, min, length, List, [], ◌∷◌, Bool, true, false, Option, Some, None, if◌then◌else◌}
use Rattle.bson_value.specs.declared.value.Value.{Value, Array, Null}
use Rattle.bson_value.specs.Place.{Place, Shape, an_array, an_object, shape, child, look, sized}
use Rattle.doc_path.specs.declared.parts.Part.{Part}
use Rattle.doc_path.specs.declared.parts.Change.{Change}
use Rattle.doc_path.specs.declared.parts.Change.TheVariants.{Resize as Length}
use Rattle.doc_path.specs.Touch.{name, index, key_of, Touch, walk_by, step_by, covers, InReach}
use Rattle.doc_path.specs.Played.{way_and_last, touch_at}

-- whether a part leads on at a value of this kind: a name in a document, an index in an array
abbrev pub leads : Part → Shape → Bool
leads (name k) an_object = true
leads (index n) an_array = true
leads _ _ = false

-- the value that a part leads to
abbrev pub under : Part → Value → Option Value
under p v = if leads p (shape v) then child v (key_of p) else None

abbrev pub value_from : Option Value → List Part → Option Value
value_from None ps = None
value_from (Some v) [] = Some v
value_from (Some v) (p ∷ ps) = value_from (under p v) ps

-- the value at a place
abbrev pub value_in : List Part → Value → Option Value
value_in ps v = value_from (Some v) ps

-- a change at the end of the way, where the way is there
abbrev pub changed_along : List Part → Part → Change → Value → Value
changed_along ps p c v = walk_by leads None ps (step_by leads p c) v

-- a change at a place
abbrev pub changed_at : List Part → Change → Value → Value
changed_at [] c v = v
changed_at (p ∷ ps) c v = changed_along (way_and_last p ps).0 (way_and_last p ps).1 c v

-- a value may stand under the part: it leads on, and an index is at most the array's length
abbrev pub HasRoomFor : Part → Value → Type 0
HasRoomFor p v = (leads p (shape v) ≡ true) × InReach p v

-- a value may be set at the place: its parent is there, with room for it
abbrev pub HasRoom : List Part → Value → Type 0
HasRoom [] v = ⊥
HasRoom (p ∷ ps) v = (parent : Value) × (value_in (way_and_last p ps).0 v ≡ Some parent) × HasRoomFor (way_and_last p ps).1 parent

-- an array stands at the place
abbrev pub IsArrayAt : List Part → Value → Type 0
IsArrayAt ps v = (vs : List Value) × (value_in ps v ≡ Some (Array vs))

-- what is left at a place that is unset: nothing of a field, and null of an element that was there
abbrev pub emptied : List Part → Option Value → Option Value
emptied [] o = o
emptied (name k ∷ []) o = None
emptied (index n ∷ []) None = None
emptied (index n ∷ []) (Some v) = Some Null
emptied (p ∷ (q ∷ ps)) o = emptied (q ∷ ps) o

-- at every place that the touch doesn't cover the same stands as before
abbrev pub ChangesOnly : Touch → Value → Value → Type 0
ChangesOnly t old new = (q : Place) → covers t q ≡ false → look (Some new) q ≡ look (Some old) q

-- where an array stood at the place, it has its first n elements now, padded with nulls
abbrev pub IsResizedAt : List Part → ℕ → Value → Value → Type 0
IsResizedAt ps n old new = (vs : List Value) → value_in ps old ≡ Some (Array vs) → value_in ps new ≡ Some (Array (sized n vs))

-- its elements before the lower of the two lengths, and all elsewhere, are as before
abbrev pub ChangesOnlyBehind : List Part → ℕ → Value → Value → Type 0
ChangesOnlyBehind ps n old new = (vs : List Value) → value_in ps old ≡ Some (Array vs) → ChangesOnly (touch_at ps (Length (min n (length vs)))) old new
