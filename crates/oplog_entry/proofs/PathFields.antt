-- The fields of the first form are read as the touches of their paths.
use Rattle.std.proofs.Common.{◌≡◌, ℕ, List, [], ◌∷◌, ◌++◌, true, false, refl, sym, ap, ◌∙◌, subst}
use Rattle.std.specs.Prelude.{Some}
use Rattle.std.specs.Str.{bytes_eq}
use Rattle.std.proofs.lemmas.Slice.Eq.{bytes_eq-Decides}
use Rattle.bson_value.specs.declared.value.Value.{Value}
use Rattle.doc_path.specs.declared.parts.Part.{Part}
use Rattle.doc_path.specs.declared.parts.Part.TheVariants.{Name as name}
use Rattle.doc_path.specs.declared.touches.Touch.{Touch}
use Rattle.doc_path.specs.declared.touches.Touch.TheVariants.{Set, Unset}
use Rattle.doc_path.specs.Paths.{parts_of}
use Rattle.entry_model.specs.Edits.{Sets, Unsets, Edit, mapped}
use Rattle.bson_value.specs.declared.value.Value.TheVariants.{Object}
use Rattle.doc_path.specs.declared.parts.Form.{Form}
use Rattle.doc_path.specs.declared.parts.Form.TheVariants.{V1, V2}
use Rattle.entry_model.specs.Written.{Fields, set_name, unset_name, diff_name}
use Rattle.entry_model.specs.Reads.{Read, then_also, at_path, path_fields, outermost}
use Rattle.oplog_entry.specs.DiffFields.{at_front, Adds}
use Rattle.oplog_entry.specs.PathTouches.{path_set, path_unset, form_field}
use Rattle.entry_model.proofs.Ordered.{object_read}
use Rattle.oplog_entry.proofs.Pushes.{mapped_append}
use Rattle.doc_path.proofs.Named.{some_parts}
use Rattle.entry_model.proofs.Touched.{parted}

set_there : (ks : List (List ℕ)) (v : Value) → (ks ≡ [] → ⊥) → mapped (at_front []) (at_path ks (λ p. Sets p v false)) ≡ Set (mapped name ks) v false ∷ []
set_there [] v n = absurd (n refl)
set_there (k ∷ ks) v n = ap (λ (l : List Part). Set l v false ∷ []) (parted (name k) (mapped name ks))

unset_there : (ks : List (List ℕ)) → (ks ≡ [] → ⊥) → mapped (at_front []) (at_path ks (λ p. Unsets p)) ≡ Unset (mapped name ks) ∷ []
unset_there [] n = absurd (n refl)
unset_there (k ∷ ks) n = ap (λ (l : List Part). Unset l ∷ []) (parted (name k) (mapped name ks))

module _ (g : List ℕ × Value → List Edit) (h : List ℕ × Value → Touch) (is : (f : List ℕ × Value) → mapped (at_front []) (g f) ≡ h f ∷ []) where
  all_there : (fs : Fields) → (es : List Edit) × (path_fields g fs ≡ Some es) × (mapped (at_front []) es ≡ mapped h fs)
  all_there [] = ([], refl, refl)
  all_there (f ∷ fs) = let r = all_there fs in
      (g f ++ r.0, ap (then_also (Some (g f))) r.1, mapped_append (at_front []) (g f) r.0 ∙ (λ k. is f k ++ r.2 k))

  added : (fs : Fields) (old new : List Touch) → new ≡ old ++ mapped h fs → Adds [] (path_fields g fs) old new
  added fs old new e = let r = all_there fs in
      subst (λ (o : Read). Adds [] o old new) (sym r.1) (e ∙ ap (λ (l : List Touch). old ++ l) (sym r.2))

pub sets_added : (fs : Fields) (old new : List Touch) → new ≡ old ++ mapped path_set fs → Adds [] (path_fields (λ f. at_path (parts_of f.0) (λ p. Sets p f.1 false)) fs) old new
sets_added = added (λ f. at_path (parts_of f.0) (λ p. Sets p f.1 false)) path_set (λ f. set_there (parts_of f.0) f.1 (some_parts f.0))

pub unsets_added : (fs : Fields) (old new : List Touch) → new ≡ old ++ mapped path_unset fs → Adds [] (path_fields (λ f. at_path (parts_of f.0) (λ p. Unsets p)) fs) old new
unsets_added = added (λ f. at_path (parts_of f.0) (λ p. Unsets p)) path_unset (λ f. unset_there (parts_of f.0) (some_parts f.0))

-- ---- a field of o that is a document

pub as_sets : (form : Form) (n : List ℕ) (v : Value) (fs : Fields) → form ≡ V1 → true ≡ bytes_eq n set_name → v ≡ Object fs → form_field form n v ≡ path_fields (λ f. at_path (parts_of f.0) (λ p. Sets p f.1 false)) fs
as_sets form n v fs f e h = (λ i. form_field (f i) ((bytes_eq-Decides n set_name).0 (sym e) i) (h i)) ∙ object_read (path_fields (λ g. at_path (parts_of g.0) (λ p. Sets p g.1 false))) fs

pub as_unsets : (form : Form) (n : List ℕ) (v : Value) (fs : Fields) → form ≡ V1 → true ≡ bytes_eq n unset_name → v ≡ Object fs → form_field form n v ≡ path_fields (λ f. at_path (parts_of f.0) (λ p. Unsets p)) fs
as_unsets form n v fs f e h = (λ i. form_field (f i) ((bytes_eq-Decides n unset_name).0 (sym e) i) (h i)) ∙ object_read (path_fields (λ g. at_path (parts_of g.0) (λ p. Unsets p))) fs

pub as_diff : (form : Form) (n : List ℕ) (v : Value) (fs : Fields) → form ≡ V2 → true ≡ bytes_eq n diff_name → v ≡ Object fs → form_field form n v ≡ outermost 201 fs
as_diff form n v fs f e h = (λ i. form_field (f i) ((bytes_eq-Decides n diff_name).0 (sym e) i) (h i)) ∙ object_read (outermost 201) fs

pub adds_by : (o r : Read) (old new : List Touch) → o ≡ r → Adds [] r old new → Adds [] o old new
adds_by o r old new e h = subst (λ (x : Read). Adds [] x old new) (sym e) h
