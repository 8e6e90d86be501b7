-- Touches that stay within a field make of its value the same in any document that has it as where it is alone.
use Rattle.std.proofs.Common.{◌≡◌, ℕ, true, false, List, [], ◌∷◌, ◌++◌, map, refl, sym, ap, subst, ◌∙◌, Option, Some, None, inl, inr}
use Rattle.std.specs.Prelude.{IfOk, IfSome, Result}
use Rattle.std.specs.List.{list_all}
use Rattle.std.specs.Str.{bytes_eq}
use Rattle.std.proofs.lemmas.Slice.Eq.{bytes_eq-Decides}
use Rattle.std.proofs.lemmas.Bool.{cases_Bool, and_parts}
use Rattle.containers.specs.Entries.{lookup, put as put_field}
use Rattle.containers.proofs.Entries.{lookup-put, put_same}
use Rattle.bson_value.specs.declared.value.Value.{Value}
use Rattle.bson_value.specs.declared.value.Value.TheVariants.{Object}
use Rattle.bson_value.specs.Place.{shape}
use Rattle.bson_view.specs.declared.document_bytes.DocumentBytes.{DocumentBytes}
use Rattle.bson_view.specs.Kept.{kept_document}
use Rattle.doc_path.specs.declared.parts.Part.{Part}
use Rattle.doc_path.specs.declared.parts.Part.TheVariants.{Name as name, Index as index}
use Rattle.doc_path.specs.declared.parts.Form.{Form}
use Rattle.doc_path.specs.declared.parts.Form.TheVariants.{V1, V2}
use Rattle.doc_path.specs.declared.parts.Change.TheVariants.{Put, Delete, Resize as Length}
use Rattle.doc_path.specs.declared.touches.Touch.{Touch}
use Rattle.doc_path.specs.declared.touches.Touch.TheVariants.{Set as Sets, Unset as Unsets, Resize as Resizes}
use Rattle.doc_path.specs.Touch.{Touch as Played, takes, made, walk, set_last, unset_last, resize_here, play}
use Rattle.doc_path.specs.Played.{is_left, played, played_all, way_and_last, touch_at, touch_of}
use Rattle.doc_path.proofs.Places.{child-object}
use Rattle.doc_path.proofs.Steps.{shape-object}
use Rattle.delta_apply.proofs.Others.{fields, fields-object}
use Rattle.coll_state.specs.Rows.{Document}
use Rattle.replay.specs.Splicing.{stays_within, IsPlayedAlone}
use Rattle.replay.proofs.Ids.{put_object}
use Rattle.replay.proofs.OneField.{set_here, if_some}

put_twice : (k : List ℕ) (a b : Value) (d : Document) → put_field k b (put_field k a d) ≡ put_field k b d
put_twice k a b [] = rw ((bytes_eq-Decides k k).1 refl) refl
put_twice k a b (e ∷ es) =
    elim (cases_Bool (bytes_eq e.0 k)) [
      | inl h ↦ rw (h, (bytes_eq-Decides k k).1 refl) refl
      | inr h ↦ rw (h, h) (ap (λ (d : Document). e ∷ d) (put_twice k a b es))
    ]

takes_field : (f : Form) (k : List ℕ) (d : Document) → takes f (name k) (shape (Object d)) ≡ true
takes_field V1 k d = rw (shape-object d) refl
takes_field V2 k d = rw (shape-object d) refl

module _ (k : List ℕ) where
  -- what is done to a document that has the field is done to the field's value
  abbrev DoesWithin : (Value → Value) → (Value → Value) → Type 0
  DoesWithin h g = (d : Document) (x : Value) → lookup k d ≡ Some x → g (Object d) ≡ Object (put_field k (h x) d)

  abbrev StaysWithin : (Value → Value) → Type 0
  StaysWithin g = (h : Value → Value) × DoesWithin h g

  nothing : StaysWithin (λ v. v)
  nothing = (λ x. x, λ d x e. sym (ap (λ (z : Document). Object z) (put_same d k x e)))

  one_more : (g h : Value → Value) → StaysWithin g → StaysWithin h → StaysWithin (λ v. h (g v))
  one_more g h a b = (
    λ x. b.0 (a.0 x),
    λ d x e. ap h (a.1 d x e) ∙ (b.1 (put_field k (a.0 x) d) (a.0 x) (lookup-put d k (a.0 x)) ∙ ap (λ (z : Document). Object z) (put_twice k (a.0 x) (b.0 (a.0 x)) d)),
  )

  module _ (f : Form) where
    pub walk_below : (o : Option Value) (ps : List Part) (g : Value → Value) (d : Document) (x : Value) → lookup k d ≡ Some x → walk f o (name k ∷ ps) g (Object d) ≡ Object (put_field k (walk f o ps g x) d)
    walk_below o ps g d x e = rw (takes_field f k d, child-object d k, e) (put_object d k (walk f o ps g x))

    below : (o : Option Value) (ps : List Part) (g : Value → Value) → StaysWithin (walk f o (name k ∷ ps) g)
    below o ps g = (walk f o ps g, walk_below o ps g)

    put_there : (ps : List Part) (a : Value) → StaysWithin (play f (touch_at (name k ∷ ps) (Put a)))
    put_there [] a = (λ x. a, λ d x e. set_here f k a d)
    put_there (q ∷ qs) a = below (made f) (way_and_last q qs).0 (set_last f (way_and_last q qs).1 a)

    deleted_below : (q : Part) (qs : List Part) → StaysWithin (play f (touch_at (name k ∷ (q ∷ qs)) Delete))
    deleted_below q qs = below None (way_and_last q qs).0 (unset_last f (way_and_last q qs).1)

    sized_there : (ps : List Part) (n : ℕ) → StaysWithin (play f (touch_at (name k ∷ ps) (Length n)))
    sized_there [] n = below None [] (resize_here n)
    sized_there (q ∷ qs) n = below None ((way_and_last q qs).0 ++ ((way_and_last q qs).1 ∷ [])) (resize_here n)

    or_left : (t : Played) → StaysWithin (play f t) → StaysWithin (played f t)
    or_left t w =
        elim (cases_Bool (is_left t)) [
          | inl e ↦ rw e nothing
          | inr e ↦ rw e w
        ]

    named : (n : List ℕ) (g : List ℕ → Value → Value) → bytes_eq n k ≡ true → StaysWithin (g k) → StaysWithin (g n)
    named n g e s = subst (λ (z : List ℕ). StaysWithin (g z)) (sym ((bytes_eq-Decides n k).0 e)) s

    one_touch : (t : Touch) → stays_within k t ≡ true → StaysWithin (played f (touch_of t))
    one_touch (Sets [] a fresh) e = absurd cc
    one_touch (Sets (index i ∷ ps) a fresh) e = absurd cc
    one_touch (Sets (name n ∷ ps) a fresh) e = named n (λ z. played f (touch_at (name z ∷ ps) (Put a))) e (or_left (touch_at (name k ∷ ps) (Put a)) (put_there ps a))
    one_touch (Unsets []) e = absurd cc
    one_touch (Unsets (index i ∷ ps)) e = absurd cc
    one_touch (Unsets (name n ∷ [])) e = absurd (let b = and_parts (bytes_eq n k) false e in cc)
    one_touch (Unsets (name n ∷ (q ∷ qs))) e = named n (λ z. played f (touch_at (name z ∷ (q ∷ qs)) Delete)) (and_parts (bytes_eq n k) _ e).0 (or_left (touch_at (name k ∷ (q ∷ qs)) Delete) (deleted_below q qs))
    one_touch (Resizes [] n) e = absurd cc
    one_touch (Resizes (index i ∷ ps) n) e = absurd cc
    one_touch (Resizes (name j ∷ ps) n) e = named j (λ z. played f (touch_at (name z ∷ ps) (Length n))) e (or_left (touch_at (name k ∷ ps) (Length n)) (sized_there ps n))

    all_touches : (ts : List Touch) → list_all (stays_within k) ts ≡ true → StaysWithin (played_all f (map touch_of ts))
    all_touches [] e = nothing
    all_touches (t ∷ ts) e =
        let b = and_parts (stays_within k t) (list_all (stays_within k) ts) e in
        one_more (played f (touch_of t)) (played_all f (map touch_of ts)) (one_touch t b.0) (all_touches ts b.1)

    -- what they make of the field alone stands in the document
    played_within : (ts : List Touch) (d e : Document) (x y : Value) → list_all (stays_within k) ts ≡ true → lookup k d ≡ Some x → Object e ≡ played_all f (map touch_of ts) (Object ((k, x) ∷ [])) → Some y ≡ lookup k e →
        Object (put_field k y d) ≡ played_all f (map touch_of ts) (Object d)
    played_within ts d e x y stays has is there =
        let w = all_touches ts stays in
        let alone : lookup k ((k, x) ∷ []) ≡ Some x = rw ((bytes_eq-Decides k k).1 refl) refl in
        let whole : e ≡ put_field k (w.0 x) ((k, x) ∷ []) = sym (fields-object e) ∙ (ap fields (is ∙ w.1 ((k, x) ∷ []) x alone) ∙ fields-object _) in
        let same : Some y ≡ Some (w.0 x) = there ∙ (ap (lookup k) whole ∙ lookup-put ((k, x) ∷ []) k (w.0 x)) in
        let value : y ≡ w.0 x = cc in
        ap (λ (z : Value). Object (put_field k z d)) value ∙ sym (w.1 d x has)

    -- the same of bytes
    pub alone_played : {E : Type 0} (ts : List Touch) (d : Document) (x y : Value) (r : Result (Option DocumentBytes) E) → list_all (stays_within k) ts ≡ true → lookup k d ≡ Some x → IsPlayedAlone f ts k x (Some y) →
        IfOk r (λ o. IfSome o (λ b. kept_document b ≡ put_field k y d)) → IfOk r (λ o. IfSome o (λ b. Object (kept_document b) ≡ played_all f (map touch_of ts) (Object d)))
    alone_played ts d x y r stays has alone is =
        if_some (λ b. kept_document b ≡ put_field k y d) (λ b. Object (kept_document b) ≡ played_all f (map touch_of ts) (Object d))
        (λ b e. ap (λ (z : Document). Object z) e ∙ played_within ts d alone.0 x y stays has alone.1 alone.2) r is
