-- A touch that sets one field of a document or takes one out.
use Rattle.std.proofs.Common.{◌≡◌, ℕ, Bool, false, List, [], ◌∷◌, length, get_or, map, sym, ap, subst, ◌∙◌, Option, Some, None, arith}
use Rattle.std.specs.Prelude.{IfOk, IfSome, Result, Ok, Err}
use Rattle.std.specs.Str.{bytes_eq}
use Rattle.containers.specs.Entries.{put as put_field, without}
use Rattle.bson_value.specs.declared.value.Value.{Value}
use Rattle.bson_value.specs.declared.value.Value.TheVariants.{Object}
use Rattle.bson_view.specs.declared.document_bytes.DocumentBytes.{DocumentBytes}
use Rattle.bson_view.specs.Kept.{kept_document}
use Rattle.doc_path.specs.declared.parts.Form.{Form}
use Rattle.doc_path.specs.declared.parts.Form.TheVariants.{V1, V2}
use Rattle.doc_path.specs.declared.parts.Part.{Part}
use Rattle.doc_path.specs.declared.parts.Part.TheVariants.{Name as name}
use Rattle.doc_path.specs.declared.touches.Touch.TheVariants.{Set as Sets, Unset as Unsets}
use Rattle.doc_path.specs.declared.touches.Touch.{Touch}
use Rattle.doc_path.specs.Touch.{set_last, unset_last}
use Rattle.doc_path.specs.Touch.{Touch as Played}
use Rattle.doc_path.specs.Played.{id_name, played_all, touch_of}
use Rattle.doc_path.proofs.Steps.{shape-object}
use Rattle.coll_state.specs.Rows.{Document}
use Rattle.replay.specs.Splicing.{SetsField, TakesField, IsPlayed}
use Rattle.replay.proofs.Ids.{put_object, del_object}

pub set_here : (f : Form) (k : List ℕ) (v : Value) (d : Document) → set_last f (name k) v (Object d) ≡ Object (put_field k v d)
set_here V1 k v d = rw (shape-object d) (put_object d k v)
set_here V2 k v d = rw (shape-object d) (put_object d k v)

pub sets_field : (k : List ℕ) (v : Value) (fresh : Bool) → bytes_eq k id_name ≡ false → SetsField k v (touch_of (Sets (name k ∷ []) v fresh))
sets_field k v fresh other f d = sym (rw other (set_here f k v d))

pub unset_here : (f : Form) (k : List ℕ) (d : Document) → unset_last f (name k) (Object d) ≡ Object (without k d)
unset_here V1 k d = rw (shape-object d) (del_object d k)
unset_here V2 k d = rw (shape-object d) (del_object d k)

pub takes_field : (k : List ℕ) → bytes_eq k id_name ≡ false → TakesField k (touch_of (Unsets (name k ∷ [])))
takes_field k other f d = sym (rw other (unset_here f k d))

-- the place is that of a field
pub unset_takes : {A : Type 0} (key : A → List ℕ) (o : Option A) (t : Touch) (place : List Part) → t ≡ Unsets place → IfSome o (λ n. (place ≡ name (key n) ∷ []) × (bytes_eq (key n) id_name ≡ false)) → IfSome o (λ n. TakesField (key n) (touch_of t))
unset_takes key None t place is s = tt
unset_takes key (Some n) t place is s =
    let here = subst (λ (ps : List Part). TakesField (key n) (touch_of (Unsets ps))) (sym s.0) (takes_field (key n) s.1) in
    subst (λ (u : Touch). TakesField (key n) (touch_of u)) (sym is) here

-- the only one
pub only_one : {A : Type 0} (xs : List A) (x : A) → length xs ≡ 1 → x ≡ get_or xs 0 x → xs ≡ x ∷ []
only_one [] x n is = absurd (omega (arith, n))
only_one (y ∷ []) x n is = ap (λ z. z ∷ []) (sym is)
only_one (y ∷ z ∷ xs) x n is = absurd (omega (arith, n))

pub only_sets : {A : Type 0} (key : A → List ℕ) (value : A → Value) (o : Option A) (ts : List Touch) (t : Touch) → ts ≡ t ∷ [] → IfSome o (λ f. SetsField (key f) (value f) (touch_of t)) → IfSome o (λ f. (p : Played) × (map touch_of ts ≡ p ∷ []) × SetsField (key f) (value f) p)
only_sets key value None ts t is s = tt
only_sets key value (Some f) ts t is s = (touch_of t, ap (map touch_of) is, s)

pub only_takes : {A : Type 0} (key : A → List ℕ) (o : Option A) (ts : List Touch) (t : Touch) → ts ≡ t ∷ [] → IfSome o (λ n. TakesField (key n) (touch_of t)) → IfSome o (λ n. (p : Played) × (map touch_of ts ≡ p ∷ []) × TakesField (key n) p)
only_takes key None ts t is s = tt
only_takes key (Some n) ts t is s = (touch_of t, ap (map touch_of) is, s)

-- ---- the document that is put

pub if_some : {A E : Type 0} (P Q : A → Type 0) → ((x : A) → P x → Q x) → (r : Result (Option A) E) → IfOk r (λ o. IfSome o P) → IfOk r (λ o. IfSome o Q)
if_some P Q f (Ok (Some x)) p = f x p
if_some P Q f (Ok None) p = tt
if_some P Q f (Err e) p = tt

module _ (f : Form) (d : Document) (ts : List Touch) where
  one_played : (k : List ℕ) (a : Value) (e : Document) → (p : Played) × (map touch_of ts ≡ p ∷ []) × SetsField k a p → e ≡ put_field k a d → IsPlayed f ts d e
  one_played k a e t is = ap (λ (z : Document). Object z) is ∙ t.2 f d ∙ sym (ap (λ (us : List Played). played_all f us (Object d)) t.1)

  pub put_played : {E : Type 0} (k : List ℕ) (a : Value) (r : Result (Option DocumentBytes) E) → (p : Played) × (map touch_of ts ≡ p ∷ []) × SetsField k a p → IfOk r (λ o. IfSome o (λ b. kept_document b ≡ put_field k a d)) → IfOk r (λ o. IfSome o (λ b. IsPlayed f ts d (kept_document b)))
  put_played k a r t is = if_some (λ b. kept_document b ≡ put_field k a d) (λ b. IsPlayed f ts d (kept_document b)) (λ b. one_played k a (kept_document b) t) r is

  one_taken : (k : List ℕ) (e : Document) → (p : Played) × (map touch_of ts ≡ p ∷ []) × TakesField k p → e ≡ without k d → IsPlayed f ts d e
  one_taken k e t is = ap (λ (z : Document). Object z) is ∙ t.2 f d ∙ sym (ap (λ (us : List Played). played_all f us (Object d)) t.1)

  pub taken_played : {E : Type 0} (k : List ℕ) (r : Result (Option DocumentBytes) E) → (p : Played) × (map touch_of ts ≡ p ∷ []) × TakesField k p → IfOk r (λ o. IfSome o (λ b. kept_document b ≡ without k d)) → IfOk r (λ o. IfSome o (λ b. IsPlayed f ts d (kept_document b)))
  taken_played k r t is = if_some (λ b. kept_document b ≡ without k d) (λ b. IsPlayed f ts d (kept_document b)) (λ b. one_taken k (kept_document b) t) r is
