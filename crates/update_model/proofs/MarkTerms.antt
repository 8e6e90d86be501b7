-- Terms for the places that an update changes, and for the touches that set and unset them.
use Rattle.std.specs.Prelude.{⊤, ◌≡◌, ◌≢◌, List, [], ◌∷◌, ◌++◌, Bool, true, false, ◌||◌, if◌then◌else◌, Option, Some, None}
use Rattle.bson_value.specs.declared.value.Value.{Value}
use Rattle.bson_value.specs.Digits.{digits}
use Rattle.bson_value.specs.Place.{Place, shape, child, look}
use Rattle.doc_path.specs.declared.parts.Part.{Part}
use Rattle.doc_path.specs.declared.parts.Part.TheVariants.{Name as name, Index as index}
use Rattle.doc_path.specs.declared.parts.Form.TheVariants.{V2}
use Rattle.doc_path.specs.Touch.{key_of, Touch, Set, Unset, takes, below, from_key, Way}
use Rattle.doc_path.specs.Places.{keys}
use Rattle.update_model.specs.declared.mark.Mark.{Mark}
use Rattle.update_model.specs.Steps.{Trace}

abbrev pub mark_covers : Mark → Place → Bool
mark_covers m q = below m.way (from_key (key_of m.last)) q

abbrev pub any_mark : List Mark → Place → Bool
any_mark [] q = false
any_mark (m ∷ ms) q = mark_covers m q || any_mark ms q

-- the value at a place
abbrev pub at_keys : Option Value → Place → Option Value
at_keys None q = None
at_keys (Some v) [] = Some v
at_keys (Some v) (k ∷ q) = at_keys (child v k) q

-- an element of an array is there
abbrev pub IndexThere : Part → Value → Type 0
IndexThere (name k) v = ⊤
IndexThere (index n) v = child v (digits n) ≢ None

abbrev pub Ready : Part → Value → Type 0
Ready p v = (takes V2 p (shape v) ≡ true) × IndexThere p v

abbrev pub Stands : Mark → Value → Type 0
Stands m v = Way V2 m.way (Ready m.last) v

abbrev pub AllStand : List Mark → Value → Type 0
AllStand [] v = ⊤
AllStand (m ∷ ms) v = Stands m v × AllStand ms v

-- what is known of one operator: from one document to the next, with its marks
pub record Step (old : Value) (ms : List Mark) (new : Value) : Type 0 where
  pub frame : (q : Place) → any_mark ms q ≡ false → look (Some new) q ≡ look (Some old) q
  pub stand : AllStand ms new

abbrev pub Steps : Value → Trace → Value → Type 0
Steps d [] z = d ≡ z
Steps d (s ∷ ss) z = Step d s.0 s.1 × Steps s.1 ss z

-- the touch of a mark, by what stands there at the end
abbrev pub touch_by : Mark → Option Value → Touch
touch_by m None = Unset m.way m.last
touch_by m (Some a) = Set m.way m.last a

abbrev pub touch_of : Value → Mark → Touch
touch_of z m = touch_by m (at_keys (Some z) (keys m.way ++ (key_of m.last ∷ [])))

abbrev pub touches_of : Value → List Mark → List Touch
touches_of z [] = []
touches_of z (m ∷ ms) = touch_of z m ∷ touches_of z ms

-- no mark stands above this one
abbrev pub Tops : List Mark → List Mark → Type 0
Tops all [] = ⊤
Tops all (m ∷ ms) = (any_mark all (keys m.way) ≡ false) × Tops all ms

-- the marks with none above them
abbrev pub tops : List Mark → List Mark → List Mark
tops all [] = []
tops all (m ∷ ms) = if any_mark all (keys m.way) then tops all ms else m ∷ tops all ms
