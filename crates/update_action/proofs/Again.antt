-- The delta of one touch is read as this touch again.
use Rattle.std.proofs.Common.{◌≡◌, ℕ, ◌+◌, ◌≤◌, List, [], ◌∷◌, length, Bool, true, false, refl, sym, ap, ◌∙◌, arith}
use Rattle.std.specs.Prelude.{Some, None, nat_lt, if◌then◌else◌}
use Rattle.std.proofs.lemmas.Grind.{common_steps}
use Rattle.bson_value.specs.declared.value.Value.{Value}
use Rattle.bson_value.specs.Spelling.{document_text}
use Rattle.doc_path.specs.declared.parts.Part.{Part}
use Rattle.doc_path.specs.declared.parts.Part.TheVariants.{Name as name, Index as index}
use Rattle.doc_path.specs.declared.parts.Form.{Form}
use Rattle.doc_path.specs.declared.parts.Form.TheVariants.{V1, V2}
use Rattle.doc_path.specs.declared.touches.Touch.{Touch}
use Rattle.doc_path.specs.declared.touches.Touch.TheVariants.{Set, Unset}
use Rattle.doc_path.specs.Played.{way_and_last}
use Rattle.entry_model.specs.declared.entry.Action.TheVariants.{Delta}
use Rattle.entry_model.specs.Edits.{Step, Sets, Unsets}
use Rattle.entry_model.specs.Written.{Fields, is_index, in_array, spelled_v2}
use Rattle.entry_model.specs.Touches.{as_touches, touch_by, written}
use Rattle.entry_model.specs.Spelling.{level_limit}
use Rattle.bson_check.specs.Reading.{document_of}
use Rattle.update_action.specs.Recorded.{delta_text, touches_in, read_or_none, byte_limit, delta_of, delta_or_whole, action_of}
use Rattle.update_action.specs.Single.{IsWellFormedPart, AreWellFormedParts, starts_at_name, ends_at_index, IsPlain, IsShallow, AreReadAgain}
use Rattle.update_action.proofs.One.{IsStep, delta_read, edit_read}
use Rattle.entry_model.proofs.Touched.{parted}

-- ---- a place as a way and its last part

way_parts : (p : Part) (ps : List Part) → AreWellFormedParts (p ∷ ps) → AreWellFormedParts (way_and_last p ps).0 × IsWellFormedPart (way_and_last p ps).1
way_parts p [] h = (tt, h.0)
way_parts p (q ∷ ps) h = let r = way_parts q ps h.1 in ((h.0, r.0), r.1)

way_length : (p : Part) (ps : List Part) → length (way_and_last p ps).0 ≡ length ps
way_length p [] = refl
way_length p (q ∷ ps) = omega (arith, way_length q ps)

way_end : (p : Part) (ps : List Part) → ends_at_index (p ∷ ps) ≡ is_index (way_and_last p ps).1
way_end p [] = refl
way_end p (q ∷ ps) = way_end q ps

set_outside : (p : Part) (ps : List Part) (a : Value) (fresh : Bool) → is_index p ≡ false → in_array (way_and_last p ps).0 (Sets (way_and_last p ps).1 a fresh) ≡ false
set_outside p [] a fresh e = e
set_outside p (q ∷ ps) a fresh e = e

unset_outside : (p : Part) (ps : List Part) → is_index p ≡ false → in_array (way_and_last p ps).0 (Unsets (way_and_last p ps).1) ≡ false
unset_outside p [] e = e
unset_outside p (q ∷ ps) e = e

set_step : (p : Part) (a : Value) (fresh : Bool) → IsWellFormedPart p → IsShallow a → (fresh ≡ true → is_index p ≡ false) → IsStep (Sets p a fresh)
set_step (name k) a fresh h v e = (h, v)
set_step (index n) a true h v e = let f : is_index (index n) ≡ false = e refl in cc
set_step (index n) a false h v e = (h, refl, v)

unset_step : (p : Part) → IsWellFormedPart p → is_index p ≡ false → IsStep (Unsets p)
unset_step (name k) h e = h
unset_step (index n) h e = cc

-- ---- all

edit_again : (ws : List Part) (s : Step) (t : Touch) → AreWellFormedParts ws → IsStep s → length ws + 1 ≤ 64 → in_array ws s ≡ false → touch_by ws s ≡ t →
    length (document_text (spelled_v2 level_limit ((ws, s) ∷ []))) ≤ byte_limit → touches_in (document_of byte_limit level_limit (document_text (spelled_v2 level_limit ((ws, s) ∷ [])))) ≡ Some (V2, t ∷ [])
edit_again ws s t w h few e same short =
    ap touches_in (delta_read ws s w h (omega (arith, few)) level_limit byte_limit (omega arith) (omega arith) short)
    ∙ (ap (λ r. read_or_none (as_touches r)) (edit_read ws s w h (omega (arith, few)) level_limit (omega arith) e)
    ∙ ap (λ (u : Touch). Some (V2, u ∷ [])) same)

starts : (p : Part) (ps : List Part) → starts_at_name (p ∷ ps) ≡ true → is_index p ≡ false
starts (name k) ps e = refl
starts (index n) ps e = cc

pub set_again : (place : List Part) (a : Value) (fresh : Bool) → IsPlain place → IsShallow a → (fresh ≡ true → ends_at_index place ≡ false) → AreReadAgain (Set place a fresh ∷ [])
unfolding AreReadAgain
set_again [] a fresh h v e = let f : starts_at_name [] ≡ true = h.start in cc
set_again (p ∷ ps) a fresh h v e =
    let w = way_parts p ps h.parts in
    edit_again (way_and_last p ps).0 (Sets (way_and_last p ps).1 a fresh) (Set (p ∷ ps) a fresh) w.0
    (set_step (way_and_last p ps).1 a fresh w.1 v (λ f. sym (way_end p ps) ∙ e f)) (omega (arith, h.few, way_length p ps))
    (set_outside p ps a fresh (starts p ps h.start)) (ap (λ (z : List Part). Set z a fresh) (parted p ps))

pub unset_again : (place : List Part) → IsPlain place → ends_at_index place ≡ false → AreReadAgain (Unset place ∷ [])
unfolding AreReadAgain
unset_again [] h e = let f : starts_at_name [] ≡ true = h.start in cc
unset_again (p ∷ ps) h e =
    let w = way_parts p ps h.parts in
    edit_again (way_and_last p ps).0 (Unsets (way_and_last p ps).1) (Unset (p ∷ ps)) w.0
    (unset_step (way_and_last p ps).1 w.1 (sym (way_end p ps) ∙ e)) (omega (arith, h.few, way_length p ps))
    (unset_outside p ps (starts p ps h.start)) (ap (λ (z : List Part). Unset z) (parted p ps))

-- ---- the action

not_longer : (n m : ℕ) → m ≤ n → nat_lt n m ≡ false
not_longer n m l = grind (arith, common_steps)

within : (n m : ℕ) → m ≤ n → n ≤ 16777216 → m ≤ byte_limit
within n m l h = omega (arith, l, h)

pub again_recorded : (form : Form) (id : Value) (new : Fields) (ts : List Touch) → form ≡ V2 → AreReadAgain ts → length (delta_text form new ts) ≤ length (document_text new) → length (document_text new) ≤ 16777216 →
    Delta id form ts ≡ action_of form id new ts
unfolding AreReadAgain
again_recorded V1 id new ts e h short small = cc
again_recorded V2 id new ts e h short small =
    sym (ap (λ (b : Bool). delta_or_whole id new (if b then None else delta_of V2 new ts)) (not_longer (length (document_text new)) (length (delta_text V2 new ts)) short)
    ∙ ap (delta_or_whole id new) (h (within (length (document_text new)) (length (delta_text V2 new ts)) short small)))

pub second_form : (form : Form) (new : Fields) (ts : List Touch) → form ≡ V2 → delta_text form new ts ≡ document_text (written form level_limit ts)
second_form V1 new ts e = cc
second_form V2 new ts e = refl
