-- Deltas that set one value or take one out, at most one level below the document.
use Rattle.std.specs.Prelude.{◌≡◌, ℕ, List, [], ◌∷◌, Bool, false, Option, Some, None, Ok, option_map}
use Rattle.std.specs.Result.{result_ok}
use Rattle.bson_value.specs.declared.value.Value.{Value}
use Rattle.bson_value.specs.declared.value.Ts.{Ts}
use Rattle.bson_value.specs.declared.namespace.NsName.{NsName}
use Rattle.bson_view.specs.Views.{elem_value}
use Rattle.doc_path.specs.declared.parts.Form.TheVariants.{V2}
use Rattle.doc_path.specs.declared.parts.Part.{Part}
use Rattle.doc_path.specs.declared.parts.Part.TheVariants.{Index, Name}
use Rattle.doc_path.specs.declared.touches.Touch.{Touch}
use Rattle.doc_path.specs.declared.touches.Touch.TheVariants.{Set, Unset}
use Rattle.entry_model.specs.declared.entry.Action.TheVariants.{Delta}
use Rattle.entry_model.specs.Reading.{head_of, is_whole, namespace_of}
use Rattle.entry_model.specs.Touches.{touches_read}
use Rattle.entry_model.specs.Written.{Fields}
use Rattle.entry_reader.specs.Changes.{change_of}
use Rattle.entry_reader.specs.Parts.{change_at}
use Rattle.entry_reader.specs.Singles.{IsTouchAt, SaysTouch}
use Rattle.entry_reader.specs.declared.field_delta.FieldDelta.{FieldDelta}
use Rattle.entry_reader.specs.declared.field_delta.FieldPlace.{FieldPlace}
use Rattle.entry_reader.specs.declared.field_delta.FieldPlace.TheVariants as places

-- the parts of the place
abbrev pub place_of : FieldPlace → List Part
place_of (places.Own k) = Name k.now ∷ []
place_of (places.Below f k) = Name f.now ∷ (Name k.now ∷ [])
place_of (places.Item f n) = Name f.now ∷ (Index n ∷ [])

-- the touch sets what stands at this place to the value, or takes it out where there is none
abbrev pub SaysAt : List Part → Option Value → Touch → Type 0
SaysAt p None t = t ≡ Unset p
SaysAt p (Some v) t = (fresh : Bool) × (t ≡ Set p v fresh)

-- a diff of these fields behind a front says such a touch
abbrev pub IsInDiff : Option (List Part) → List Part → Option Value → Fields → Type 0
IsInDiff front p v fs = (t : Touch) × SaysAt p v t × SaysTouch front fs t

-- the document's own diff of this field alone is such a touch
abbrev pub IsOnlyField : List Part → Option Value → List ℕ × Value → Type 0
IsOnlyField p v f = (t : Touch) × SaysAt p v t × IsTouchAt None 201 (f ∷ []) t

-- these fields are a delta of such a touch
abbrev pub IsDelta : List Part → Option Value → Fields → Type 0
IsDelta p v o = (t : Touch) × SaysAt p v t × (touches_read 201 o ≡ Ok (V2, t ∷ [])) × (is_whole o ≡ false)

-- an update by these parts is of such a touch: in any namespace that is one it is that of its head
abbrev pub IsDeltaOf : FieldDelta → Option (List ℕ) → Option Fields → Option Fields → Type 0
IsDeltaOf d op o o2 = (t : Touch) × SaysAt (place_of d.place) (option_map elem_value d.value) t ×
    ((h : Ts × List ℕ) (n : NsName) → namespace_of h.1 ≡ Some n → change_at (Some h) op o o2 ≡ Some (record { ts = h.0; ns = n; action = Delta (elem_value d.id) V2 (t ∷ []) }))

-- the fields are an entry of such a touch: in any namespace that is one it is that of its head
abbrev pub IsFieldDelta : FieldDelta → Fields → Type 0
IsFieldDelta d fs = (t : Touch) × SaysAt (place_of d.place) (option_map elem_value d.value) t ×
    ((h : Ts × List ℕ) (n : NsName) → result_ok (head_of fs) ≡ Some h → namespace_of h.1 ≡ Some n → change_of fs ≡ Some (record { ts = h.0; ns = n; action = Delta (elem_value d.id) V2 (t ∷ []) }))
