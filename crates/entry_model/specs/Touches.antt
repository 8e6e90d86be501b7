-- The same of touches as the code has them: each with its whole place.
use Rattle.std.specs.Prelude.{ℕ, suc, ◌≡◌, ◌≤◌, List, [], ◌∷◌, ◌++◌, Result, Ok, Err}
use Rattle.bson_value.specs.declared.value.Value.{Value, Object}
use Rattle.entry_model.specs.Distinct.{AllDistinct}
use Rattle.bson_value.specs.Levels.{levels_in}
use Rattle.bson_value.specs.Place.{shape, an_object}
use Rattle.doc_path.specs.declared.parts.Part.{Part}
use Rattle.doc_path.specs.declared.parts.Form.{Form}
use Rattle.doc_path.specs.declared.parts.Form.TheVariants.{V1, V2}
use Rattle.doc_path.specs.declared.touches.Touch.{Touch}
use Rattle.doc_path.specs.declared.touches.Touch.TheVariants.{Set, Unset, Resize}
use Rattle.doc_path.specs.Touch.{limit}
use Rattle.doc_path.specs.Played.{way_and_last, touch_of}
use Rattle.touch_laws.specs.Agree.{Records}
use Rattle.entry_model.specs.declared.fault.EntryFault.{EntryFault}
use Rattle.entry_model.specs.Edits.{Step, Sets, Unsets, Resizes, Edit, In, mapped}
use Rattle.entry_model.specs.Written.{Fields, spelled_v1, spelled_v2}
use Rattle.entry_model.specs.Reads.{update_read}
use Rattle.entry_model.specs.Laws.{NewIsNamed, ArePlain, IsPlainStep}

-- a touch as a way and what is done at its end. No touch has an empty place
abbrev pub at_end : List Part → (Part → Step) → Edit
at_end [] s = ([], Resizes limit)
at_end (p ∷ ps) s = ((way_and_last p ps).0, s (way_and_last p ps).1)

abbrev pub resized : List Part → ℕ → Edit
resized [] n = ([], Resizes limit)
resized (p ∷ ps) n = (p ∷ ps, Resizes n)

abbrev pub edit_of : Touch → Edit
edit_of (Set place a fresh) = at_end place (λ p. Sets p a fresh)
edit_of (Unset place) = at_end place (λ p. Unsets p)
edit_of (Resize place n) = resized place n

abbrev pub touch_by : List Part → Step → Touch
touch_by ps (Sets p a fresh) = Set (ps ++ (p ∷ [])) a fresh
touch_by ps (Unsets p) = Unset (ps ++ (p ∷ []))
touch_by ps (Resizes n) = Resize ps n

-- what an edit is as a touch
abbrev pub touch_from : Edit → Touch
touch_from e = touch_by e.0 e.1

abbrev pub place_of : Touch → List Part
place_of (Set place a fresh) = place
place_of (Unset place) = place
place_of (Resize place n) = place

-- ---- the written form of touches, and its reading

abbrev pub written : Form → ℕ → List Touch → Fields
written V1 n ts = spelled_v1 (mapped edit_of ts)
written V2 n ts = spelled_v2 n (mapped edit_of ts)

abbrev pub as_touches : Result (Form × List Edit) EntryFault → Result (Form × List Touch) EntryFault
as_touches (Ok r) = Ok (r.0, mapped touch_from r.1)
as_touches (Err e) = Err e

abbrev pub touches_read : ℕ → Fields → Result (Form × List Touch) EntryFault
touches_read levels fs = as_touches (update_read levels fs)

-- ---- what can be written: in the first form names have no dots, no field is new, and there is no Resize; in the second form only a field with a name is new

abbrev pub IsWritable : Form → Touch → Type 0
IsWritable V1 t = (place_of t ≡ [] → ⊥) × ArePlain (edit_of t).0 × IsPlainStep (edit_of t).1
IsWritable V2 t = (place_of t ≡ [] → ⊥) × NewIsNamed (edit_of t).1

-- the second form is written with enough levels for the new document
abbrev pub AreEnough : Form → ℕ → Value → Type 0
AreEnough V1 n new = Unit {0}
AreEnough V2 n new = levels_in new ≤ n

pub record Writable (form : Form) (n : ℕ) (ts : List Touch) (old new : Value) : Type 0 where
  pub records : Records form (mapped touch_of ts) old new
  pub document : shape new ≡ an_object
  pub levels : AreEnough form n new
  pub each : (t : Touch) → In t ts → IsWritable form t

-- the same touches, in whatever order
pub record SameTouches (ts us : List Touch) : Type 0 where
  pub to : (t : Touch) → In t ts → In t us
  pub from : (t : Touch) → In t us → In t ts

-- What is written of ts is read as us: the same touches in the order of the fields, which record the same update. The same is written of us, so that it is read as us itself
pub record IsReadAs (form : Form) (n : ℕ) (ts us : List Touch) (old new : Value) : Type 0 where
  pub read : touches_read (suc n) (written form n ts) ≡ Ok (form, us)
  pub same : SameTouches ts us
  pub records : Records form (mapped touch_of us) old new
  pub spelled : written form n us ≡ written form n ts
  pub again : touches_read (suc n) (written form n us) ≡ Ok (form, us)

abbrev pub WrittenIsRead : Type 0
WrittenIsRead = (form : Form) (n : ℕ) (ts : List Touch) (old new : Value) → Writable form n ts old new → (us : List Touch) × IsReadAs form n ts us old new

-- ---- what is written is a document

abbrev pub PlacesOnce : List Touch → Type 0
PlacesOnce [] = Unit {0}
PlacesOnce (t ∷ ts) = ((u : Touch) → In u ts → place_of u ≡ place_of t → ⊥) × PlacesOnce ts

abbrev pub HoldsDistinct : Touch → Type 0
HoldsDistinct (Set place a fresh) = AllDistinct a
HoldsDistinct _ = Unit {0}

abbrev pub WrittenIsDocument : Type 0
WrittenIsDocument = (form : Form) (n : ℕ) (ts : List Touch) (old new : Value) → Writable form n ts old new → PlacesOnce ts → ((t : Touch) → In t ts → HoldsDistinct t) → AllDistinct (Object (written form n ts))
