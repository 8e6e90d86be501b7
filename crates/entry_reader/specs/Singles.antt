-- Deltas of one touch.
use Rattle.std.specs.Prelude.{◌≡◌, ℕ, suc, List, [], ◌∷◌, ℤ, pos, Option, Some, None, option_map}
use Rattle.bson_value.specs.declared.value.Value.{Value, Value-F, out-Value}
use Rattle.bson_value.specs.Digits.{index_of}
use Rattle.bson_view.specs.Views.{elem_value}
use Rattle.bson_view.specs.declared.elem.Elem.{Elem}
use Rattle.doc_path.specs.declared.parts.Part.{Part}
use Rattle.doc_path.specs.declared.touches.Touch.{Touch}
use Rattle.doc_path.specs.declared.touches.Touch.TheVariants.{Resize}
use Rattle.entry_model.specs.Edits.{mapped}
use Rattle.entry_model.specs.Written.{Fields, v_name, diff_name, a_name}
use Rattle.entry_model.specs.Reads.{Read, diff_read, outermost}
use Rattle.oplog_entry.specs.DiffFields.{at_front, behind_letter, low_index}

-- the number, where the value is an int32
abbrev pub int_in : Value-F Value → Option ℤ
int_in (Value-F.Int z) = Some z
int_in _ = None

-- the int32 2
abbrev pub IsTwo : Value-F Value → Type 0
IsTwo v = int_in v ≡ Some (pos 2)

-- these are the fields
abbrev pub HasFields : Elem → Elem → Fields → Type 0
HasFields a b fs = fs ≡ (a.name.now, elem_value a) ∷ ((b.name.now, elem_value b) ∷ [])

-- these are, or the first alone is
abbrev pub HasOneOrBoth : Elem → Option Elem → Fields → Type 0
HasOneOrBoth a None fs = fs ≡ (a.name.now, elem_value a) ∷ []
HasOneOrBoth a (Some b) fs = HasFields a b fs

-- a delta of the second form has a version and this diff
abbrev pub IsSecondForm : Fields → Fields → Type 0
IsSecondForm o d = (v w : Value) × IsTwo (out-Value v) × (out-Value w ≡ Value-F.Object d) × (o ≡ (v_name, v) ∷ ((diff_name, w) ∷ []))

-- the parts in front of a diff: of the document's own there are none
abbrev pub front_of : Option (List Part) → List Part
front_of None = []
front_of (Some place) = place

-- the edits of a diff of at most n levels. The outermost is no array's
abbrev pub edits_in : Option (List Part) → ℕ → Fields → Read
edits_in None n fs = outermost n fs
edits_in (Some place) n fs = diff_read n fs

-- behind this front the diff is this touch alone
abbrev pub IsTouchAt : Option (List Part) → ℕ → Fields → Touch → Type 0
IsTouchAt front n fs t = option_map (mapped (at_front (front_of front))) (edits_in front n fs) ≡ Some (t ∷ [])

-- so it is at however many levels
abbrev pub SaysTouch : Option (List Part) → Fields → Touch → Type 0
SaysTouch front fs t = (n : ℕ) → IsTouchAt front (suc n) fs t

-- this is the only field of an array's diff, behind its mark
abbrev pub IsOfArray : List ℕ × Value → Fields → Type 0
IsOfArray f fs = (v : Value) × (fs ≡ (a_name, v) ∷ (f ∷ []))

-- with this field alone an array's diff is this touch
abbrev pub SaysOfArray : List Part → List ℕ × Value → Touch → Type 0
SaysOfArray place f t = (v : Value) → SaysTouch (Some place) ((a_name, v) ∷ (f ∷ [])) t

-- the touch sets the length that the value is
abbrev pub IsResize : List Part → Value-F Value → Touch → Type 0
IsResize place v t = (n : ℕ) × (int_in v ≡ Some (pos n)) × (t ≡ Resize place n)

-- the index that stands behind this letter
abbrev pub index_in : Option (List ℕ) → Option ℕ
index_in None = None
index_in (Some cs) = low_index (index_of cs)

abbrev pub index_behind : ℕ → List ℕ → Option ℕ
index_behind c name = index_in (behind_letter c name)
