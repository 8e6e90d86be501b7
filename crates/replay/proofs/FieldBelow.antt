-- A touch that changes the document that a field holds.
use Rattle.std.proofs.Common.{◌≡◌, ℕ, Bool, false, List, [], ◌∷◌, map, sym, ap, subst, ◌∙◌, Option, Some, None}
use Rattle.std.specs.Prelude.{IfOk, IfSome, Result}
use Rattle.std.specs.Str.{bytes_eq}
use Rattle.containers.specs.Entries.{put as put_field}
use Rattle.bson_value.specs.declared.value.Value.{Value}
use Rattle.bson_value.specs.declared.value.Value.TheVariants.{Object}
use Rattle.bson_view.specs.declared.document_bytes.DocumentBytes.{DocumentBytes}
use Rattle.bson_view.specs.Kept.{kept_document}
use Rattle.doc_path.specs.declared.parts.Form.{Form}
use Rattle.doc_path.specs.declared.parts.Part.{Part}
use Rattle.doc_path.specs.declared.parts.Part.TheVariants.{Name as name}
use Rattle.doc_path.specs.declared.touches.Touch.{Touch}
use Rattle.doc_path.specs.declared.touches.Touch.TheVariants.{Set as Sets, Unset as Unsets}
use Rattle.doc_path.specs.Touch.{Touch as Played, made, set_last, unset_last}
use Rattle.doc_path.specs.Played.{id_name, played_all, touch_of}
use Rattle.coll_state.specs.Rows.{Document}
use Rattle.spliced_documents.specs.Splicing.{IsCutBelow, IsPutBelow}
use Rattle.replay.specs.Splicing.{Changes, IsPlayed}
use Rattle.replay.proofs.FieldAlone.{walk_below}
use Rattle.replay.proofs.OneField.{if_some, set_here, unset_here}

pub sets_below : (f k : List ℕ) (a : Value) (fresh : Bool) → bytes_eq f id_name ≡ false → Changes (IsPutBelow f k a) (touch_of (Sets (name f ∷ (name k ∷ [])) a fresh))
sets_below f k a fresh other form d e is =
    let walked = walk_below f form (made form) [] (set_last form (name k) a) d (Object is.0) is.1 in
    ap (λ (z : Document). Object z) is.2 ∙ sym (rw other (walked ∙ ap (λ (w : Value). Object (put_field f w d)) (set_here form k a is.0)))

pub unsets_below : (f k : List ℕ) → bytes_eq f id_name ≡ false → Changes (IsCutBelow f k) (touch_of (Unsets (name f ∷ (name k ∷ []))))
unsets_below f k other form d e is =
    let walked = walk_below f form None [] (unset_last form (name k)) d (Object is.0) is.1 in
    ap (λ (z : Document). Object z) is.2 ∙ sym (rw other (walked ∙ ap (λ (w : Value). Object (put_field f w d)) (unset_here form k is.0)))

-- the two names of the place
pub unset_changes : {A : Type 0} (f k : A → List ℕ) (o : Option A) (t : Touch) (place : List Part) → t ≡ Unsets place → IfSome o (λ n. (place ≡ name (f n) ∷ (name (k n) ∷ [])) × (bytes_eq (f n) id_name ≡ false)) → IfSome o (λ n. Changes (IsCutBelow (f n) (k n)) (touch_of t))
unset_changes f k None t place is s = tt
unset_changes f k (Some n) t place is s =
    let here = subst (λ (ps : List Part). Changes (IsCutBelow (f n) (k n)) (touch_of (Unsets ps))) (sym s.0) (unsets_below (f n) (k n) s.1) in
    subst (λ (u : Touch). Changes (IsCutBelow (f n) (k n)) (touch_of u)) (sym is) here

-- the only touch changes the document like this
pub only_changes : {A : Type 0} (r : A → Document → Document → Type 0) (o : Option A) (ts : List Touch) (t : Touch) → ts ≡ t ∷ [] → IfSome o (λ x. Changes (r x) (touch_of t)) → IfSome o (λ x. (p : Played) × (map touch_of ts ≡ p ∷ []) × Changes (r x) p)
only_changes r None ts t is s = tt
only_changes r (Some x) ts t is s = (touch_of t, ap (map touch_of) is, s)

module _ (f : Form) (d : Document) (r : Document → Document → Type 0) (ts : List Touch) (t : (p : Played) × (map touch_of ts ≡ p ∷ []) × Changes r p) where
  one_changed : (e : Document) → r d e → IsPlayed f ts d e
  one_changed e is = t.2 f d e is ∙ sym (ap (λ (us : List Played). played_all f us (Object d)) t.1)

  pub changed_played : {E : Type 0} (o : Result (Option DocumentBytes) E) → IfOk o (λ o. IfSome o (λ b. r d (kept_document b))) → IfOk o (λ o. IfSome o (λ b. IsPlayed f ts d (kept_document b)))
  changed_played o is = if_some (λ b. r d (kept_document b)) (λ b. IsPlayed f ts d (kept_document b)) (λ b. one_changed (kept_document b)) o is
