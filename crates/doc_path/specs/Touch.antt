-- Touches, how they are played, and what they cover.
use Rattle.std.specs.Prelude.{⊤, ℕ, ◌≡◌, ◌<◌, ◌≤◌, length, List, [], ◌∷◌, Bool, true, false, ◌&&◌, if◌then◌else◌, nat_lt, nat_le, Option, Some, None}
use Rattle.std.specs.Str.{bytes_eq}
use Rattle.bson_value.specs.declared.value.Value.{Value, Value-F, Object, out-Value, roll-Value}
pub use Rattle.doc_path.specs.declared.parts.Part.{Part}
pub use Rattle.doc_path.specs.declared.parts.Part.TheVariants.{Name as name, Index as index}
pub use Rattle.doc_path.specs.declared.parts.Form.{Form}
pub use Rattle.doc_path.specs.declared.parts.Form.TheVariants.{V1, V2}
use Rattle.doc_path.specs.declared.parts.Change.{Change}
use Rattle.doc_path.specs.declared.parts.Change.TheVariants.{Put, Delete, Resize as Length}
use Rattle.bson_value.specs.Digits.{digits, index_of}
use Rattle.bson_value.specs.Place.{Place, Shape, a_leaf, an_array, an_object, a_code, shape, child, put, del, sized, into}

abbrev pub key_of : Part → List ℕ
key_of (name k) = k
key_of (index n) = digits n

-- the place of a Set and an Unset is the way and one part more
pub data Touch : Type 0 where
  Set : List Part → Part → Value → Touch
  Unset : List Part → Part → Touch
  Resize : List Part → ℕ → Touch

abbrev pub limit : ℕ
limit = 2097152

-- whether there is an index, and it is below the limit
abbrev pub small : Option ℕ → Bool
small None = false
small (Some n) = nat_lt n limit

-- whether a part is taken at a value of this kind
abbrev pub takes : Form → Part → Shape → Bool
takes V2 (name k) an_object = true
takes V2 (index n) an_array = nat_lt n limit
takes V2 (name k) an_array = false
takes V2 (index n) an_object = false
takes V1 p an_object = true
takes V1 p an_array = small (index_of (key_of p))
takes f p (a_leaf c) = false
takes f p (a_code t) = false

abbrev pub or_else : Option Value → Option Value → Option Value
or_else None d = d
or_else (Some c) d = Some c

-- g is done to the value at the end of the way, where each part is taken. A missing value on the way is d, or leaves all
abbrev pub walk_by : (Part → Shape → Bool) → Option Value → List Part → (Value → Value) → Value → Value
walk_by taken d [] g v = g v
walk_by taken d (p ∷ ps) g v = if taken p (shape v) then into (walk_by taken d ps g) v (key_of p) (or_else (child v (key_of p)) d) else v

abbrev pub set_by : (Part → Shape → Bool) → Part → Value → Value → Value
set_by taken p a v = if taken p (shape v) then put v (key_of p) a else v

abbrev pub unset_by : (Part → Shape → Bool) → Part → Value → Value
unset_by taken p v = if taken p (shape v) then del v (key_of p) else v

-- the same in replay
abbrev pub walk : Form → Option Value → List Part → (Value → Value) → Value → Value
walk f d ps g v = walk_by (takes f) d ps g v

abbrev pub set_last : Form → Part → Value → Value → Value
set_last f p a v = set_by (takes f) p a v

abbrev pub unset_last : Form → Part → Value → Value
unset_last f p v = unset_by (takes f) p v

abbrev pub resize_in : ℕ → Value-F Value → Value-F Value
resize_in n (Value-F.Array vs) = Value-F.Array (sized n vs)
resize_in n f = f

unfoldable pub resize_here : ℕ → Value → Value
resize_here n v = roll-Value (resize_in n (out-Value v))

-- what a missing value on the way of a Set counts as
abbrev pub made : Form → Option Value
made V1 = Some (Object [])
made V2 = None

abbrev pub play : Form → Touch → Value → Value
play f (Set ps p a) v = walk f (made f) ps (set_last f p a) v
play f (Unset ps p) v = walk f None ps (unset_last f p) v
play f (Resize ps n) v = walk f None ps (resize_here n) v

-- what is done at the last part of a place, where it is taken. A new length is one step further
abbrev pub step_by : (Part → Shape → Bool) → Part → Change → Value → Value
step_by taken p (Put a) v = set_by taken p a v
step_by taken p Delete v = unset_by taken p v
step_by taken p (Length n) v = walk_by taken None (p ∷ []) (resize_here n) v

abbrev pub last_step : Form → Part → Change → Value → Value
last_step f p c v = step_by (takes f) p c v

-- what a missing value on the way counts as
abbrev pub made_for : Form → Change → Option Value
made_for V1 (Put a) = Some (Object [])
made_for V1 Delete = None
made_for V1 (Length n) = None
made_for V2 c = None

-- a change at a place
abbrev pub changed : Form → List Part → Part → Change → Value → Value
changed f ps p c v = walk f (made_for f c) ps (last_step f p c) v

-- what is covered below the end of the way
abbrev pub below : List Part → (Place → Bool) → Place → Bool
below [] c q = c q
below (p ∷ ps) c [] = false
below (p ∷ ps) c (k ∷ q) = bytes_eq (key_of p) k && below ps c q

abbrev pub from_key : List ℕ → Place → Bool
from_key k [] = false
from_key k (j ∷ q) = bytes_eq k j

abbrev pub from_at : ℕ → Option ℕ → Bool
from_at n None = false
from_at n (Some j) = nat_le n j

abbrev pub from_index : ℕ → Place → Bool
from_index n [] = false
from_index n (j ∷ q) = from_at n (index_of j)

abbrev pub covers : Touch → Place → Bool
covers (Set ps p a) q = below ps (from_key (key_of p)) q
covers (Unset ps p) q = below ps (from_key (key_of p)) q
covers (Resize ps n) q = below ps (from_index n) q

-- whether the way is there in a value and what stands at its end meets a condition
abbrev pub Way : Form → List Part → (Value → Type 0) → Value → Type 0
Way f [] P v = P v
Way f (p ∷ ps) P v = (takes f p (shape v) ≡ true) × (c : Value) × (child v (key_of p) ≡ Some c) × Way f ps P c

-- an index is at most the length
abbrev pub ReachIn : Option ℕ → Value-F Value → Type 0
ReachIn i (Value-F.Array vs) = (n : ℕ) → i ≡ Some n → n ≤ length vs
ReachIn i f = ⊤

abbrev pub InReach : Part → Value → Type 0
InReach p v = ReachIn (index_of (key_of p)) (out-Value v)

abbrev pub SetFits : Form → Part → Value → Type 0
SetFits f p v = (takes f p (shape v) ≡ true) × InReach p v

abbrev pub UnsetFits : Form → Part → Value → Type 0
UnsetFits f p v = (takes f p (shape v) ≡ true) × (shape v ≡ an_object)

abbrev pub ResizeFits : ℕ → Value → Type 0
ResizeFits n v = (n < limit) × (vs : List Value) × (out-Value v ≡ Value-F.Array vs) × (n ≤ length vs)

abbrev pub Fits : Form → Touch → Value → Type 0
Fits f (Set ps p a) v = Way f ps (SetFits f p) v
Fits f (Unset ps p) v = Way f ps (UnsetFits f p) v
Fits f (Resize ps n) v = Way f ps (ResizeFits n) v
