-- A document there that one touch changes: one that sets what is at a place to a value, or takes it out.
use Rattle.std.proofs.Common.{◌≡◌, ℕ, false, List, [], ◌∷◌, refl, sym, ap, subst, ◌∙◌, Option, Some, None}
use Rattle.std.specs.Prelude.{IfSome, IsSome}
use Rattle.std.specs.Str.{bytes_eq}
use Rattle.std.proofs.lemmas.Option.{IfSome_then}
use Rattle.bson_value.specs.declared.namespace.NsName.{NsName}
use Rattle.bson_value.specs.declared.value.Value.{Value}
use Rattle.bson_value.specs.declared.value.Value.TheVariants.{Object}
use Rattle.bson_encode.specs.Key.{key_of}
use Rattle.bson_view.specs.declared.document_bytes.DocumentBytes.{DocumentBytes}
use Rattle.bson_view.specs.Kept.{kept_document}
use Rattle.doc_path.specs.declared.parts.Form.TheVariants.{V2}
use Rattle.doc_path.specs.declared.parts.Part.{Part}
use Rattle.doc_path.specs.declared.parts.Part.TheVariants.{Name as name}
use Rattle.doc_path.specs.declared.touches.Touch.TheVariants.{Set as Sets, Unset as Unsets}
use Rattle.doc_path.specs.declared.touches.Touch.{Touch}
use Rattle.doc_path.specs.Played.{id_name, touch_of}
use Rattle.state_model.specs.Keys.{Key}
use Rattle.state_model.specs.Replay.{replay_all}
use Rattle.coll_state.specs.Changes.{number_at, put}
use Rattle.coll_state.specs.Rows.{Document, Rows, id_of, key_in, state_of}
use Rattle.spliced_documents.specs.Splicing.{IsCutBelow, IsPutBelow}
use Rattle.replay.specs.Moves.{deltas}
use Rattle.replay.specs.Splicing.{Changes, IsThere, IsWith, IsWithBelow, SaysAt}
use Rattle.replay.proofs.Calls.{played_put}
use Rattle.replay.proofs.FieldBelow.{sets_below, unsets_below}
use Rattle.replay.proofs.Ids.{id_kept}
use Rattle.replay.proofs.OneField.{sets_field, takes_field}

one_touch : (place : List Part) (o : Option Value) → (t : Touch) × SaysAt place o t
one_touch place None = (Unsets place, refl)
one_touch place (Some v) = (Sets place v false, (false, refl))

module _ (place : List Part) (value : Option Value) (r : Document → Document → Type 0) (plays : (t : Touch) → SaysAt place value t → Changes r (touch_of t)) where
  -- the `_id` stays
  same_id : (d e : Document) → r d e → id_of e ≡ id_of d
  same_id d e is =
      let t = one_touch place value in
      id_kept V2 (t.0 ∷ []) d e (plays t.0 t.1 V2 d e is)

  module _ (n : NsName) (i : Value) (s : Rows) (number : ℕ) (d : Document) (there : IsThere n i s number d) where
    number_is : (e : Document) → r d e → number_at n (key_in (id_of e)) s.tables ≡ Some number
    number_is e is = ap (λ (key : Key). number_at n key s.tables) (ap key_in (same_id d e is) ∙ there.2) ∙ there.1

    pub number_if : (o : Option DocumentBytes) → IfSome o (λ b. r d (kept_document b)) → IfSome o (λ b. number_at n (key_in (id_of (kept_document b))) s.tables ≡ Some number)
    number_if o is = IfSome_then o is (λ b. number_is (kept_document b))

    pub made_if : (o : Option DocumentBytes) → IfSome o (λ b. r d (kept_document b)) → (new : Rows) → IfSome o (λ b. new ≡ put n (kept_document b) s) → IsSome o → (t : Touch) → SaysAt place value t → state_of new ≡ replay_all (deltas n (key_of i) V2 (t ∷ [])) (state_of s)
    made_if None is new stands some t says = absurd cc
    made_if (Some b) is new stands some t says = played_put n i V2 (t ∷ []) d (kept_document b) s new there.0 there.2 (plays t says V2 d (kept_document b) is) stands

-- ---- what a touch of this place changes

pub changes_field : (k : List ℕ) → bytes_eq k id_name ≡ false → (o : Option Value) (t : Touch) → SaysAt (name k ∷ []) o t → Changes (IsWith k o) (touch_of t)
changes_field k other None t says f d e is =
    subst (λ (u : Touch). Changes (IsWith k None) (touch_of u)) (sym says) (λ f d e is. ap (λ (z : Document). Object z) is ∙ takes_field k other f d) f d e is
changes_field k other (Some v) t says f d e is =
    subst (λ (u : Touch). Changes (IsWith k (Some v)) (touch_of u)) (sym says.1) (λ f d e is. ap (λ (z : Document). Object z) is ∙ sets_field k v says.0 other f d) f d e is

pub changes_below : (f k : List ℕ) → bytes_eq f id_name ≡ false → (o : Option Value) (t : Touch) → SaysAt (name f ∷ (name k ∷ [])) o t → Changes (IsWithBelow f k o) (touch_of t)
changes_below f k other None t says = subst (λ (u : Touch). Changes (IsCutBelow f k) (touch_of u)) (sym says) (unsets_below f k other)
changes_below f k other (Some v) t says = subst (λ (u : Touch). Changes (IsPutBelow f k v) (touch_of u)) (sym says.1) (sets_below f k v says.0 other)
