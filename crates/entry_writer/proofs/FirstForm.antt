-- The fields of the first form, touch by touch.
use Rattle.std.proofs.Common.{◌≡◌, ℕ, List, [], ◌∷◌, ◌++◌, Bool, true, false, refl, sym, ap, ◌∙◌, append_assoc}
use Rattle.std.specs.Prelude.{pos, Some, None}
use Rattle.bson_value.specs.declared.value.Value.{Value, Int, Bool as Truth}
use Rattle.bson_value.specs.Spelling.{element, spelling, elements_of}
use Rattle.doc_path.specs.declared.parts.Part.{Part}
use Rattle.doc_path.specs.declared.touches.Touch.{Touch}
use Rattle.doc_path.specs.declared.touches.Touch.TheVariants.{Set, Unset, Resize}
use Rattle.entry_model.specs.Edits.{Edit, picked, mapped}
use Rattle.entry_model.specs.Written.{Fields, path_of, path_set, path_gone, section, v_name, set_name, unset_name, spelled_v1}
use Rattle.entry_model.specs.Touches.{edit_of}
use Rattle.entry_writer.specs.Levels.{path_field}
use Rattle.entry_writer.proofs.Bytes.{elements-append, picked-mapped}
use Rattle.entry_model.proofs.Touched.{parted}

pub set_path : (place : List Part) (a : Value) (fresh : Bool) → (place ≡ [] → ⊥) → path_field true (Set place a fresh) ≡ Some (path_of place, a)
set_path [] a fresh n = absurd (n refl)
set_path (p ∷ ps) a fresh n = ap (λ (l : List Part). Some (path_of l, a)) (parted p ps)

pub unset_path : (place : List Part) → (place ≡ [] → ⊥) → path_field false (Unset place) ≡ Some (path_of place, Truth true)
unset_path [] n = absurd (n refl)
unset_path (p ∷ ps) n = ap (λ (l : List Part). Some (path_of l, Truth true)) (parted p ps)

pub set_no_path : (place : List Part) (a : Value) (fresh : Bool) → path_field false (Set place a fresh) ≡ None
set_no_path [] a fresh = refl
set_no_path (p ∷ ps) a fresh = refl

pub unset_no_path : (place : List Part) → path_field true (Unset place) ≡ None
unset_no_path [] = refl
unset_no_path (p ∷ ps) = refl

pub resize_no_path : (sets : Bool) (place : List Part) (m : ℕ) → path_field sets (Resize place m) ≡ None
resize_no_path true [] m = refl
resize_no_path true (p ∷ ps) m = refl
resize_no_path false [] m = refl
resize_no_path false (p ∷ ps) m = refl

pub first_form : (ts : List Touch) (old one two three : List ℕ) → one ≡ old ++ element (v_name, spelling (Int (pos 1))) → two ≡ one ++ elements_of (section set_name (picked (path_field true) ts)) → three ≡ two ++ elements_of (section unset_name (picked (path_field false) ts)) → three ≡ old ++ elements_of (spelled_v1 (mapped edit_of ts))
first_form ts old one two three a b d =
    let v : List ℕ = element (v_name, spelling (Int (pos 1))) in
    let s : Fields = section set_name (picked (path_field true) ts) in
    let u : Fields = section unset_name (picked (path_field false) ts) in
    d ∙ (ap (λ (l : List ℕ). l ++ elements_of u) (b ∙ ap (λ (l : List ℕ). l ++ elements_of s) a)
    ∙ (append_assoc (old ++ v) (elements_of s) (elements_of u)
    ∙ (append_assoc old v (elements_of s ++ elements_of u)
    ∙ ap (λ (l : List ℕ). old ++ (v ++ l)) (sym (elements-append s u)
    ∙ (let x = sym (picked-mapped (λ (e : Edit). path_set e.0 e.1) edit_of ts) in let y = sym (picked-mapped (λ (e : Edit). path_gone e.0 e.1) edit_of ts) in λ i. elements_of (section set_name (x i) ++ section unset_name (y i)))))))

pub set_there : (sets : Bool) (t : Touch) (place : List Part) (a : Value) (fresh : Bool) → t ≡ Set place a fresh → sets ≡ true → (place ≡ [] → ⊥) → path_field sets t ≡ Some (path_of place, a)
set_there sets t place a fresh e b n = (λ i. path_field (b i) (e i)) ∙ set_path place a fresh n

pub unset_there : (sets : Bool) (t : Touch) (place : List Part) → t ≡ Unset place → sets ≡ false → (place ≡ [] → ⊥) → path_field sets t ≡ Some (path_of place, Truth true)
unset_there sets t place e b n = (λ i. path_field (b i) (e i)) ∙ unset_path place n
