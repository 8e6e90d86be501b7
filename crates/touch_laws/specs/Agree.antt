-- Two documents that differ at most where a touch to come will write.
use Rattle.std.specs.Prelude.{⊤, ℕ, None, ◌<◌, ◌≡◌, List, [], ◌∷◌, Bool, Option, true, false, ◌||◌, ◌⊎◌, Some}
use Rattle.std.specs.Prelude.{length}
use Rattle.bson_value.specs.declared.value.Value.{Value, Value-F, out-Value}
use Rattle.bson_value.specs.Place.{Place, look, shape, child, an_object}
use Rattle.doc_path.specs.declared.parts.Part.{Part}
use Rattle.doc_path.specs.declared.parts.Form.{Form}
use Rattle.doc_path.specs.Touch.{Touch, Set, Unset, Resize, key_of, takes, limit, Way, covers, Fits, play}

-- the same stands in both at each place but those of which d says yes
abbrev pub SameBut : (Place → Bool) → Option Value → Option Value → Type 0
SameBut d y x = (q : Place) → d q ≡ false → look y q ≡ look x q

-- but those of which one of the two says yes
abbrev pub SameButEither : (Place → Bool) → (Place → Bool) → Option Value → Option Value → Type 0
SameButEither c d y x = (q : Place) → c q ≡ false → d q ≡ false → look y q ≡ look x q

-- whether one of the touches covers a place
abbrev pub any_covers : List Touch → Place → Bool
any_covers [] q = false
any_covers (t ∷ ts) q = covers t q || any_covers ts q

-- where no touch covers, the same stands in both: the same kind of value, or the same leaf, or nothing
abbrev pub Agree : Value → Value → List Touch → Type 0
Agree y x ts = (q : Place) → any_covers ts q ≡ false → look (Some y) q ≡ look (Some x) q

-- the touches one after the other
abbrev pub play_all : Form → List Touch → Value → Value
play_all f [] v = v
play_all f (t ∷ ts) v = play_all f ts (play f t v)

-- each touch fits the value on which it is played
abbrev pub AllFit : Form → List Touch → Value → Type 0
AllFit f [] v = ⊤
AllFit f (t ∷ ts) v = Fits f t v × AllFit f ts (play f t v)

-- A touch that has nothing left to do: what it would make stands already.
abbrev pub SetDone : Form → Part → Value → Value → Type 0
SetDone f p a v = (takes f p (shape v) ≡ true) × (child v (key_of p) ≡ Some a)

abbrev pub UnsetDone : Form → Part → Value → Type 0
UnsetDone f p v = (takes f p (shape v) ≡ true) × (shape v ≡ an_object) × (child v (key_of p) ≡ None)

abbrev pub ResizeDone : ℕ → Value → Type 0
ResizeDone n v = (n < limit) × (vs : List Value) × (out-Value v ≡ Value-F.Array vs) × (length vs ≡ n)

abbrev pub Done : Form → Touch → Value → Type 0
Done f (Set ps p a) v = Way f ps (SetDone f p a) v
Done f (Unset ps p) v = Way f ps (UnsetDone f p) v
Done f (Resize ps n) v = Way f ps (ResizeDone n) v

abbrev pub AllDone : Form → List Touch → Value → Type 0
AllDone f [] v = ⊤
AllDone f (t ∷ ts) v = Done f t v × AllDone f ts v

-- the touches of an accepted update: the old document and the new one differ at covered places alone, and in the new one nothing is left to do
pub record Records (f : Form) (ts : List Touch) (old new : Value) : Type 0 where
  pub frame : (q : Place) → any_covers ts q ≡ false → look (Some new) q ≡ look (Some old) q
  pub done : AllDone f ts new

-- the touch is one of the list
abbrev pub InTouches : Touch → List Touch → Type 0
InTouches t [] = ⊥
InTouches t (u ∷ us) = (t ≡ u) ⊎ InTouches t us
