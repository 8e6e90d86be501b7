-- The first form is spelled alike with indexes in the place of the names of their digits.
use Rattle.std.proofs.Common.{◌≡◌, ℕ, List, [], ◌∷◌, ◌++◌, map, refl, sym, ap, ◌∙◌, subst, Bool, true, false}
use Rattle.std.specs.Prelude.{Option, Some, None, pos}
use Rattle.bson_value.specs.declared.value.Value.{Value, Int, Object, Bool as Truth}
use Rattle.bson_value.specs.Spelling.{document_text}
use Rattle.doc_path.specs.declared.parts.Part.{Part}
use Rattle.doc_path.specs.declared.parts.Form.{Form}
use Rattle.doc_path.specs.declared.parts.Form.TheVariants.{V1}
use Rattle.doc_path.specs.declared.touches.Touch.{Touch}
use Rattle.doc_path.specs.declared.touches.Touch.TheVariants.{Set, Unset, Resize}
use Rattle.doc_path.specs.Paths.{dot}
use Rattle.doc_path.specs.Played.{way_and_last}
use Rattle.doc_path.specs.Ways.{value_in}
use Rattle.update_replay.specs.Forms.{as_name, as_names, first_form}
use Rattle.entry_model.specs.Edits.{Edit, onto, picked, mapped}
use Rattle.entry_model.specs.Written.{Fields, path_of, path_set, path_gone, section, v_name, set_name, unset_name}
use Rattle.entry_model.specs.Touches.{edit_of, written}
use Rattle.entry_model.specs.Spelling.{level_limit}
use Rattle.update_action.specs.Recorded.{set_or_length, without_length, delta_text}
use Rattle.update_replay.specs.Forms as forms
use Rattle.update_replay.proofs.Named.{key_as_name}
use Rattle.entry_model.proofs.Touched.{parted}

path_as_names : (ps : List Part) → path_of (as_names ps) ≡ path_of ps
path_as_names [] = refl
path_as_names (p ∷ []) = key_as_name p
path_as_names (p ∷ (q ∷ ps)) = λ i. key_as_name p i ++ (dot ∷ path_as_names (q ∷ ps) i)

-- ---- what an edit sets, and what it removes

abbrev set_by : Edit → Option (List ℕ × Value)
set_by e = path_set e.0 e.1

abbrev gone_by : Edit → Option (List ℕ × Value)
gone_by e = path_gone e.0 e.1

same_set : (p : Part) (ps : List Part) (a : Value) → path_of ((way_and_last (as_name p) (as_names ps)).0 ++ ((way_and_last (as_name p) (as_names ps)).1 ∷ [])) ≡ path_of ((way_and_last p ps).0 ++ ((way_and_last p ps).1 ∷ []))
same_set p ps a = ap path_of (parted (as_name p) (as_names ps)) ∙ (path_as_names (p ∷ ps) ∙ sym (ap path_of (parted p ps)))

-- two touches that are spelled alike
abbrev AreAlike : Touch → Touch → Type 0
AreAlike t u = (set_by (edit_of t) ≡ set_by (edit_of u)) × (gone_by (edit_of t) ≡ gone_by (edit_of u))

set_alike : (ps : List Part) (a : Value) (fresh : Bool) → AreAlike (Set (as_names ps) a false) (Set ps a fresh)
set_alike [] a fresh = (refl, refl)
set_alike (p ∷ ps) a fresh = (ap (λ (k : List ℕ). Some (k, a)) (same_set p ps a), refl)

unset_alike : (ps : List Part) → AreAlike (Unset (as_names ps)) (Unset ps)
unset_alike [] = (refl, refl)
unset_alike (p ∷ ps) = (refl, ap (λ (k : List ℕ). Some (k, Truth true)) (same_set p ps (Truth true)))

length_alike : (ps : List Part) (n : ℕ) → AreAlike (Resize (as_names ps) n) (Resize ps n)
length_alike [] n = (refl, refl)
length_alike (p ∷ ps) n = (refl, refl)

array_alike : (ps : List Part) (n : ℕ) (o : Option Value) → AreAlike (forms.set_or_length (as_names ps) n o) (set_or_length ps n o)
array_alike ps n None = length_alike ps n
array_alike ps n (Some a) = set_alike ps a false

touch_alike : (z : Value) (t : Touch) → AreAlike (first_form z t) (without_length z t)
touch_alike z (Set ps a fresh) = set_alike ps a fresh
touch_alike z (Unset ps) = unset_alike ps
touch_alike z (Resize ps n) = array_alike ps n (value_in ps z)

-- ---- all of them

all_set : (z : Value) (ts : List Touch) → picked set_by (mapped edit_of (map (first_form z) ts)) ≡ picked set_by (mapped edit_of (map (without_length z) ts))
all_set z [] = refl
all_set z (t ∷ ts) = λ i. onto ((touch_alike z t).0 i) (all_set z ts i)

all_gone : (z : Value) (ts : List Touch) → picked gone_by (mapped edit_of (map (first_form z) ts)) ≡ picked gone_by (mapped edit_of (map (without_length z) ts))
all_gone z [] = refl
all_gone z (t ∷ ts) = λ i. onto ((touch_alike z t).1 i) (all_gone z ts i)

written_alike : (n : ℕ) (z : Value) (ts : List Touch) → written V1 n (map (first_form z) ts) ≡ written V1 n (map (without_length z) ts)
written_alike n z ts = λ i. (v_name, Int (pos 1)) ∷ (section set_name (all_set z ts i) ++ section unset_name (all_gone z ts i))

-- the delta in the first form, as the code writes it
pub first_text : (form : Form) (new : Fields) (ts us : List Touch) → form ≡ V1 → us ≡ map (without_length (Object new)) ts → document_text (written form level_limit us) ≡ delta_text form new ts
first_text form new ts us e h =
    subst (λ (f : Form). document_text (written f level_limit us) ≡ delta_text f new ts) (sym e)
    (ap (λ (vs : List Touch). document_text (written V1 level_limit vs)) h ∙ ap document_text (sym (written_alike level_limit (Object new) ts)))
