-- The laws of what touches cover, and of what replay leaves at once.
use Rattle.std.specs.Prelude.{◌≡◌, ◌↔◌, ◌||◌, List, [], ◌∷◌, ◌++◌, Bool, true, false}
use Rattle.bson_value.specs.declared.value.Value.{Value}
use Rattle.bson_value.specs.Place.{Place}
use Rattle.doc_path.specs.declared.parts.Part.{Part}
use Rattle.doc_path.specs.declared.parts.Form.{Form}
use Rattle.doc_path.specs.declared.parts.Change.{Change}
use Rattle.doc_path.specs.Touch.{Touch, covers, play, changed}
use Rattle.doc_path.specs.Played.{is_left, left_at, too_long, touch_at, played}
use Rattle.doc_path.specs.Left.{IsLeftAtOnce}

-- where it says yes of a place, it says yes of all below: where no below, no
abbrev pub Hereditary : (Place → Bool) → Type 0
Hereditary d = (q r : Place) → d (q ++ r) ≡ false → d q ≡ false

abbrev pub CoversAllBelow : Type 0
CoversAllBelow = (t : Touch) (q r : Place) → covers t q ≡ true → covers t (q ++ r) ≡ true

abbrev pub CoversHereditarily : Type 0
CoversHereditarily = (t : Touch) → Hereditary (covers t)

abbrev pub CoversNoRoot : Type 0
CoversNoRoot = (t : Touch) → covers t [] ≡ false

abbrev pub LeftAtOnce : Type 0
LeftAtOnce = (t : Touch) → (is_left t ≡ true) ↔ IsLeftAtOnce t

abbrev pub LeftStays : Type 0
LeftStays = (f : Form) (t : Touch) (v : Value) → IsLeftAtOnce t → played f t v ≡ v

abbrev pub OthersArePlayed : Type 0
OthersArePlayed = (f : Form) (t : Touch) (v : Value) → (IsLeftAtOnce t → ⊥) → played f t v ≡ play f t v

-- what `change_document` does is what playing the touch does
abbrev pub ChangeIsPlayed : Type 0
ChangeIsPlayed = (f : Form) (ws : List Part) (p : Part) (c : Change) (v : Value) → left_at (ws ++ (p ∷ [])) ≡ false → too_long c ≡ false → changed f ws p c v ≡ played f (touch_at (ws ++ (p ∷ [])) c) v

abbrev pub FarChangeStays : Type 0
FarChangeStays = (f : Form) (ws : List Part) (p : Part) (c : Change) (v : Value) → left_at (ws ++ (p ∷ [])) || too_long c ≡ true → played f (touch_at (ws ++ (p ∷ [])) c) v ≡ v
