-- What is written of well-formed touches is a well-formed document.
use Rattle.std.proofs.Common.{◌≡◌, ℕ, List, [], ◌∷◌, map, refl, sym, ap, ◌∙◌, subst, arith, inl, inr}
use Rattle.std.specs.Prelude.{Option, Some, None}
use Rattle.bson_value.specs.declared.value.Value.{Value, Object}
use Rattle.bson_value.specs.declared.value.Value.TheVariants.{outs-Object}
use Rattle.bson_value.specs.Place.{Place}
use Rattle.bson_value.specs.WellFormed.{IsName, IsWellFormed, IsWellFormedLevel, IsWellFormedDocument}
use Rattle.bson_value.proofs.WellFormed.{IsHeldWellFormed, held_formed, here_formed}
use Rattle.doc_path.specs.declared.parts.Part.{Part}
use Rattle.doc_path.specs.declared.parts.Part.TheVariants.{Name as name, Index as index}
use Rattle.doc_path.specs.declared.parts.Form.{Form}
use Rattle.doc_path.specs.declared.parts.Form.TheVariants.{V1, V2}
use Rattle.doc_path.specs.declared.touches.Touch.{Touch}
use Rattle.doc_path.specs.declared.touches.Touch.TheVariants.{Set, Unset, Resize}
use Rattle.doc_path.specs.Touch.{key_of}
use Rattle.doc_path.specs.Places.{keys}
use Rattle.doc_path.specs.Played.{way_and_last}
use Rattle.doc_path.specs.Ways.{value_in}
use Rattle.update_replay.specs.Forms.{as_names, set_or_length, first_form, in_form}
use Rattle.entry_model.specs.Edits.{In, mapped}
use Rattle.entry_model.specs.Touches.{edit_of, place_of, written, Writable, PlacesOnce, HoldsDistinct, WrittenIsDocument}
use Rattle.entry_model.proofs.Lists.{mapped_in}
use Rattle.update_records.proofs.Levels.{Fields}
use Rattle.update_records.proofs.Formed.{SoundFields, formed_distinct, formed_sound, sound_formed, sound_object}
use Rattle.update_records.proofs.Spelled.{AreNamed, IsSoundEdit, AreSound, first_sound, second_sound}
use Rattle.update_records.proofs.Once.{KeysOnce}
use Rattle.update_records.proofs.Changed.{place_formed}
use Rattle.update_records.proofs.Made.{IsWellFormedTouch, AreWellFormedTouches}

-- ---- the first form

names_named : (ps : List Part) → AreNamed ps → AreNamed (as_names ps)
names_named [] h = tt
names_named (name k ∷ ps) h = (h.0, names_named ps h.1)
names_named (index n ∷ ps) h = (h.0, names_named ps h.1)

same_keys : (ps : List Part) → keys (as_names ps) ≡ keys ps
same_keys [] = refl
same_keys (name k ∷ ps) = ap (λ (q : Place). k ∷ q) (same_keys ps)
same_keys (index n ∷ ps) = ap (λ (q : Place). key_of (index n) ∷ q) (same_keys ps)

first_formed : (z : Value) (t : Touch) → IsWellFormed z → IsWellFormedTouch t → IsWellFormedTouch (first_form z t)
first_formed z (Set place a fresh) w h = (names_named place h.0, h.1)
first_formed z (Unset place) w h = names_named place h
first_formed z (Resize place n) w h = by (value_in place z) refl
  where
    by : (o : Option Value) → value_in place z ≡ o → IsWellFormedTouch (set_or_length (as_names place) n o)
    by None e = (names_named place h.0, h.1)
    by (Some a) e = (names_named place h.0, place_formed place z a w e)

first_place : (z : Value) (t : Touch) → keys (place_of (first_form z t)) ≡ keys (place_of t)
first_place z (Set place a fresh) = same_keys place
first_place z (Unset place) = same_keys place
first_place z (Resize place n) = by (value_in place z)
  where
    by : (o : Option Value) → keys (place_of (set_or_length (as_names place) n o)) ≡ keys place
    by None = same_keys place
    by (Some a) = same_keys place

all_first : (z : Value) (ts : List Touch) → IsWellFormed z → AreWellFormedTouches ts → AreWellFormedTouches (map (first_form z) ts)
all_first z [] w h = tt
all_first z (t ∷ ts) w h = (first_formed z t w h.0, all_first z ts w h.1)

from_first : (z : Value) (ts : List Touch) (u : Touch) → In u (map (first_form z) ts) → (t : Touch) × In t ts × (keys (place_of u) ≡ keys (place_of t))
from_first z [] u i = absurd i
from_first z (t ∷ ts) u (inl e) = (t, inl refl, ap (λ (x : Touch). keys (place_of x)) e ∙ first_place z t)
from_first z (t ∷ ts) u (inr i) = let r = from_first z ts u i in (r.0, inr r.1, r.2)

first_once : (z : Value) (ts : List Touch) → KeysOnce ts → KeysOnce (map (first_form z) ts)
first_once z [] o = tt
first_once z (t ∷ ts) o = (
  (λ u i e. (let r = from_first z ts u i in o.0 r.0 r.1 (sym r.2 ∙ (e ∙ first_place z t)))),
  first_once z ts o.1,
)

pub form_formed : (form : Form) (z : Value) (ts : List Touch) → IsWellFormed z → AreWellFormedTouches ts → AreWellFormedTouches (in_form form z ts)
form_formed V1 z ts w h = all_first z ts w h
form_formed V2 z ts w h = h

pub form_once : (form : Form) (z : Value) (ts : List Touch) → KeysOnce ts → KeysOnce (in_form form z ts)
form_once V1 z ts o = first_once z ts o
form_once V2 z ts o = o

-- ---- what is written

places_once : (ts : List Touch) → KeysOnce ts → PlacesOnce ts
places_once [] o = tt
places_once (t ∷ ts) o = ((λ u i e. o.0 u i (ap keys e)), places_once ts o.1)

one_formed : (ts : List Touch) (t : Touch) → AreWellFormedTouches ts → In t ts → IsWellFormedTouch t
one_formed [] t h i = absurd i
one_formed (u ∷ ts) t h (inl e) = subst IsWellFormedTouch (sym e) h.0
one_formed (u ∷ ts) t h (inr i) = one_formed ts t h.1 i

holds_distinct : (t : Touch) → IsWellFormedTouch t → HoldsDistinct t
holds_distinct (Set place a fresh) h = formed_distinct a h.1
holds_distinct (Unset place) h = tt
holds_distinct (Resize place n) h = tt

way_named : (p : Part) (ps : List Part) → AreNamed (p ∷ ps) → AreNamed (way_and_last p ps).0 × IsName (key_of (way_and_last p ps).1)
way_named p [] h = (tt, h.0)
way_named p (q ∷ ps) h = let r = way_named q ps h.1 in ((h.0, r.0), r.1)

edit_sound : (t : Touch) → IsWellFormedTouch t → IsSoundEdit (edit_of t)
edit_sound (Set [] a fresh) h = (tt, omega arith)
edit_sound (Set (p ∷ ps) a fresh) h = let w = way_named p ps h.0 in (w.0, (w.1, formed_sound a h.1))
edit_sound (Unset []) h = (tt, omega arith)
edit_sound (Unset (p ∷ ps)) h = way_named p ps h
edit_sound (Resize [] n) h = (tt, omega arith)
edit_sound (Resize (p ∷ ps) n) h = (h.0, omega (arith, h.1))

edits_sound : (ts : List Touch) → AreWellFormedTouches ts → AreSound (mapped edit_of ts)
edits_sound ts h e i = let x = mapped_in edit_of ts e i in subst IsSoundEdit (sym x.2) (edit_sound x.0 (one_formed ts x.0 h x.1))

written_sound : (form : Form) (n : ℕ) (ts : List Touch) → AreWellFormedTouches ts → SoundFields (written form n ts)
written_sound V1 n ts h = first_sound (mapped edit_of ts) (edits_sound ts h)
written_sound V2 n ts h = second_sound n (mapped edit_of ts) (edits_sound ts h)

pub document_formed : (fs : Fields) → IsWellFormed (Object fs) → IsWellFormedDocument fs
document_formed fs h = (subst IsWellFormedLevel (outs-Object fs) (here_formed (Object fs) h), subst IsHeldWellFormed (outs-Object fs) (held_formed (Object fs) h))

pub written_formed : WrittenIsDocument → (form : Form) (n : ℕ) (ts : List Touch) (old new : Value) → Writable form n ts old new → KeysOnce ts → AreWellFormedTouches ts → IsWellFormedDocument (written form n ts)
written_formed distinct form n ts old new w once h =
    let d = distinct form n ts old new w (places_once ts once) (λ t i. holds_distinct t (one_formed ts t h i)) in
    document_formed (written form n ts) (sound_formed (Object (written form n ts)) d (sound_object (written form n ts) (written_sound form n ts h)))
