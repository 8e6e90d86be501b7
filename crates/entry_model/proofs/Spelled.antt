-- Edits in the order in which a diff spells them have the same diff.
use Rattle.std.proofs.Common.{◌≡◌, ℕ, suc, zero, List, [], ◌∷◌, ◌++◌, Bool, true, false, refl, sym, ap, ◌∙◌, subst, inl, inr}
use Rattle.std.specs.Prelude.{◌⊎◌, if◌then◌else◌, Option, Some, None, pos}
use Rattle.bson_value.specs.declared.value.Value.{Value, Object}
use Rattle.bson_value.specs.declared.value.Value.TheVariants.{Bool as Truth, Int}
use Rattle.bson_value.specs.Place.{an_array, an_object, shape, child}
use Rattle.doc_path.specs.declared.parts.Part.{Part}
use Rattle.doc_path.specs.declared.parts.Part.TheVariants.{Name as name, Index as index}
use Rattle.doc_path.specs.Touch.{key_of}
use Rattle.entry_model.specs.Edits.{Step, Sets, Unsets, Resizes, Edit, In, onto, picked, mapped, gathered, same_part, group, under, heads}
use Rattle.entry_model.specs.Written.{Fields, a_name, l_name, d_name, u_name, i_name, s_of, u_of, section, gone_in, set_in, new_in, gone, set, new, document_diff, length_in, set_at, part_in, parts, below, at_part, array_diff, is_array, diff}
use Rattle.entry_model.specs.Reads.{unset_of, set_of}
use Rattle.entry_model.specs.Laws.{AllStand, SameEdits}
use Rattle.entry_model.proofs.Lists.{one_part, own_part}
use Rattle.entry_model.proofs.Standing.{in_object, in_list, list_is_array, somewhere, there, group_stands, not_array, some_array}
use Rattle.entry_model.proofs.Ordered.{document_order, length_edit, edit_at, part_order, array_order, order}
use Rattle.entry_model.proofs.Members.{same_edits}
use Rattle.entry_model.proofs.Blocks.{append_nil, gathered_same, gathered_none, mapped_none, mapped_own, one_block, other_part}
use Rattle.entry_model.proofs.Regrouped.{A, B, C, S, L, U, four, below_none, heads_again, group_again, head_there, two, part_two, array_parts, array_group, parts_no_twice, lengths_none, sets_none, part_there, order_nil, stand_again}

mapped_same : {X Y : Type 0} (f g : X → Y) (xs : List X) → ((x : X) → In x xs → f x ≡ g x) → mapped f xs ≡ mapped g xs
mapped_same f g [] h = refl
mapped_same f g (x ∷ xs) h = let a = h x (inl refl) in let b = mapped_same f g xs (λ y i. h y (inr i)) in λ i. a i ∷ b i

-- ---- a document

gone_kept : (es : List Edit) → gone (mapped unset_of (gone es)) ≡ gone es
gone_kept [] = refl
gone_kept (e ∷ es) = by e.0 e.1 (gone_kept es)
  where
    by : (ps : List Part) (s : Step) → gone (mapped unset_of (gone es)) ≡ gone es → gone (mapped unset_of (onto (gone_in ps s) (gone es))) ≡ onto (gone_in ps s) (gone es)
    by [] (Unsets (name k)) h = ap (λ (l : Fields). (k, Truth false) ∷ l) h
    by [] (Unsets (index n)) h = h
    by [] (Sets p a fresh) h = h
    by [] (Resizes n) h = h
    by (p ∷ ps) s h = h

module _ (es : List Edit) (og : Part → List Edit) where
  gone_is : gone (document_order og es) ≡ gone es
  gone_is =
      let f : Edit → Option (List ℕ × Value) = λ e. gone_in e.0 e.1 in
      let b : picked f (B es og) ≡ [] = mapped_none f (set_of false) (set es) (λ x. refl) in
      let c : picked f (C es og) ≡ [] = mapped_none f (set_of true) (new es) (λ x. refl) in
      let s : picked f (S es og) ≡ [] = below_none es og f (λ r d. refl) in
      let a : picked f (A es og) ≡ gone es = gone_kept es in
      four es og f ∙ ((λ i. a i ++ (b i ++ (c i ++ s i))) ∙ append_nil (gone es))

  set_is : set (document_order og es) ≡ set es
  set_is =
      let f : Edit → Option (List ℕ × Value) = λ e. set_in e.0 e.1 in
      let a : picked f (A es og) ≡ [] = mapped_none f unset_of (gone es) (λ x. refl) in
      let b : picked f (B es og) ≡ set es = mapped_own f (set_of false) (set es) (λ x. refl) in
      let c : picked f (C es og) ≡ [] = mapped_none f (set_of true) (new es) (λ x. refl) in
      let s : picked f (S es og) ≡ [] = below_none es og f (λ r d. refl) in
      four es og f ∙ ((λ i. a i ++ (b i ++ (c i ++ s i))) ∙ append_nil (set es))

  new_is : new (document_order og es) ≡ new es
  new_is =
      let f : Edit → Option (List ℕ × Value) = λ e. new_in e.0 e.1 in
      let a : picked f (A es og) ≡ [] = mapped_none f unset_of (gone es) (λ x. refl) in
      let b : picked f (B es og) ≡ [] = mapped_none f (set_of false) (set es) (λ x. refl) in
      let c : picked f (C es og) ≡ new es = mapped_own f (set_of true) (new es) (λ x. refl) in
      let s : picked f (S es og) ≡ [] = below_none es og f (λ r d. refl) in
      four es og f ∙ ((λ i. a i ++ (b i ++ (c i ++ s i))) ∙ append_nil (new es))

  document_spelled : (go go' : Part → Fields) → ((r : Part) → In r (heads es) → (d : Edit) × In d (og r)) → ((r : Part) → In r (heads es) → go' r ≡ go r) →
      document_diff go' (document_order og es) ≡ document_diff go es
  document_spelled go go' some same =
      let s : mapped (λ r. (s_of r, Object (go' r))) (heads (document_order og es)) ≡ mapped (λ r. (s_of r, Object (go r))) (heads es) =
      ap (mapped (λ (r : Part). (s_of r, Object (go' r)))) (heads_again es og some)
      ∙ mapped_same (λ r. (s_of r, Object (go' r))) (λ r. (s_of r, Object (go r))) (heads es) (λ r i. ap (λ (fs : Fields). (s_of r, Object fs)) (same r i)) in
      let a = gone_is in
      let b = set_is in
      let c = new_is in
      λ i. section d_name (a i) ++ (section u_name (b i) ++ (section i_name (c i) ++ s i))

-- ---- an array

lengths_kept : (es : List Edit) → picked (λ e. length_in e.0 e.1) (picked (λ e. length_edit e.0 e.1) es) ≡ picked (λ e. length_in e.0 e.1) es
lengths_kept [] = refl
lengths_kept (e ∷ es) = by e.0 e.1 (lengths_kept es)
  where
    by : (ps : List Part) (s : Step) → picked (λ e. length_in e.0 e.1) (picked (λ e. length_edit e.0 e.1) es) ≡ picked (λ e. length_in e.0 e.1) es →
        picked (λ e. length_in e.0 e.1) (onto (length_edit ps s) (picked (λ e. length_edit e.0 e.1) es)) ≡ onto (length_in ps s) (picked (λ e. length_in e.0 e.1) es)
    by [] (Resizes n) h = ap (λ (l : Fields). (l_name, Int (pos n)) ∷ l) h
    by [] (Sets p a fresh) h = h
    by [] (Unsets p) h = h
    by (p ∷ ps) s h = h

sets_kept : (r : Part) (es : List Edit) → picked (λ e. set_at r e.0 e.1) (picked (λ e. edit_at r e.0 e.1) es) ≡ picked (λ e. set_at r e.0 e.1) es
sets_kept r [] = refl
sets_kept r (e ∷ es) = by e.0 e.1 (sets_kept r es)
  where
    abc : (p : Part) (a : Value) (b : Bool) → same_part p r ≡ b → picked (λ e. set_at r e.0 e.1) (picked (λ e. edit_at r e.0 e.1) es) ≡ picked (λ e. set_at r e.0 e.1) es →
        picked (λ e. set_at r e.0 e.1) (onto (if b then Some ([], Sets r a false) else None) (picked (λ e. edit_at r e.0 e.1) es)) ≡ onto (if b then Some (u_of p, a) else None) (picked (λ e. set_at r e.0 e.1) es)
    abc p a true k h = let q : r ≡ p = sym (one_part p r k) in rw (own_part r) (λ i. (u_of (q i), a) ∷ h i)
    abc p a false k h = h

    by : (ps : List Part) (s : Step) → picked (λ e. set_at r e.0 e.1) (picked (λ e. edit_at r e.0 e.1) es) ≡ picked (λ e. set_at r e.0 e.1) es →
        picked (λ e. set_at r e.0 e.1) (onto (edit_at r ps s) (picked (λ e. edit_at r e.0 e.1) es)) ≡ onto (set_at r ps s) (picked (λ e. set_at r e.0 e.1) es)
    by [] (Sets p a fresh) h = abc p a (same_part p r) refl h
    by [] (Resizes n) h = h
    by [] (Unsets p) h = h
    by (p ∷ ps) s h = h

below_same : (go go' : Part → Fields) (r : Part) (gs hs : List Edit) → go' r ≡ go r → (gs ≡ [] → hs ≡ []) → (hs ≡ [] → gs ≡ []) → below go' r gs ≡ below go r hs
below_same go go' r [] [] e a b = refl
below_same go go' r [] (h ∷ hs) e a b = let k : h ∷ hs ≡ [] = a refl in cc
below_same go go' r (g ∷ gs) [] e a b = let k : g ∷ gs ≡ [] = b refl in cc
below_same go go' r (g ∷ gs) (h ∷ hs) e a b = ap (λ (fs : Fields). (s_of r, Object fs) ∷ []) e

module _ (es : List Edit) (og : Part → List Edit) (empty : (r : Part) → group r es ≡ [] → og r ≡ []) where
  lengths_is : picked (λ e. length_in e.0 e.1) (array_order og es) ≡ picked (λ e. length_in e.0 e.1) es
  lengths_is =
      let f : Edit → Option (List ℕ × Value) = λ e. length_in e.0 e.1 in
      let a : picked f (L es og empty) ≡ picked f es = lengths_kept es in
      let b : gathered (λ r. picked f (part_order og es r)) (parts es) ≡ [] = gathered_none (λ r. picked f (part_order og es r)) (parts es)
      (λ r i. part_two es og empty f r ∙ (let x : picked f (U es og empty r) ≡ [] = sets_none f r es (λ a. refl) in let y : picked f (mapped (under r) (og r)) ≡ [] = mapped_none f (under r) (og r) (λ d. refl) in λ k. x k ++ y k)) in
      two es og empty f ∙ ((λ i. a i ++ b i) ∙ append_nil (picked f es))

  sets_is : (r : Part) → In r (parts es) → picked (λ e. set_at r e.0 e.1) (array_order og es) ≡ picked (λ e. set_at r e.0 e.1) es
  sets_is r h =
      let f : Edit → Option (List ℕ × Value) = λ e. set_at r e.0 e.1 in
      let a : picked f (L es og empty) ≡ [] = lengths_none f es (λ n. refl) in
      let deep : (q : Part) → picked f (mapped (under q) (og q)) ≡ [] = λ q. mapped_none f (under q) (og q) (λ d. refl) in
      let other : (q : Part) → (q ≡ r → ⊥) → picked f (part_order og es q) ≡ [] =
      λ q n. part_two es og empty f q ∙ (let x : picked f (U es og empty q) ≡ [] = sets_none f q es (λ a. rw (other_part q r n) refl) in let y = deep q in λ k. x k ++ y k) in
      let own : picked f (part_order og es r) ≡ picked f es = part_two es og empty f r ∙ ((let x : picked f (U es og empty r) ≡ picked f es = sets_kept r es in let y = deep r in λ k. x k ++ y k) ∙ append_nil (picked f es)) in
      let b : gathered (λ q. picked f (part_order og es q)) (parts es) ≡ picked f es = one_block (λ q. picked f (part_order og es q)) (parts es) r (parts_no_twice es og empty) h other ∙ own in
      two es og empty f ∙ (λ i. a i ++ b i)

  array_spelled : (go go' : Part → Fields) → ((r : Part) → In r (parts es) → In r (picked (λ e. part_in e.0 e.1) (part_order og es r))) → ((r : Part) → og r ≡ [] → group r es ≡ []) →
      ((r : Part) → In r (parts es) → go' r ≡ go r) → array_diff go' (array_order og es) ≡ array_diff go es
  array_spelled go go' some full same =
      let l = lengths_is in
      let one : (r : Part) → In r (parts es) → at_part go' (array_order og es) r ≡ at_part go es r =
      λ r i. (let u = sets_is r i in
      let g : group r (array_order og es) ≡ og r = array_group es og empty r i in
      let b : below go' r (group r (array_order og es)) ≡ below go r (group r es) =
      below_same go go' r (group r (array_order og es)) (group r es) (same r i) (λ e. full r (sym g ∙ e)) (λ e. g ∙ empty r e) in
      λ k. u k ++ b k) in
      let g : gathered (at_part go' (array_order og es)) (parts (array_order og es)) ≡ gathered (at_part go es) (parts es) =
      ap (gathered (at_part go' (array_order og es))) (array_parts es og empty some) ∙ gathered_same (at_part go' (array_order og es)) (at_part go es) (parts es) one in
      λ i. (a_name, Truth true) ∷ (l i ++ g i)

-- ---- all

none_left : (xs ys : List Edit) → SameEdits xs ys → ys ≡ [] → xs ≡ []
none_left [] ys s e = refl
none_left (x ∷ xs) ys s e = absurd (subst (λ (l : List Edit). In x l) e (s.to x (inl refl)))

pub spelled_again : (n : ℕ) (v : Value) (es : List Edit) → AllStand n v es → diff n (order n es) ≡ diff n es
spelled_again zero v es a = refl
spelled_again (suc n) v [] a = refl
spelled_again (suc n) v (x ∷ xs) a =
    by (somewhere x.0 x.1 v (a x (inl refl)).done)
    (λ r. same_edits n (there (child v (key_of r))) (group r (x ∷ xs)) (group_stands n v (x ∷ xs) r a))
    (λ r. spelled_again n (there (child v (key_of r))) (group r (x ∷ xs)) (group_stands n v (x ∷ xs) r a))
  where
    whole : SameEdits (x ∷ xs) (order (suc n) (x ∷ xs))
    whole = same_edits (suc n) v (x ∷ xs) a

    stands : AllStand (suc n) v (order (suc n) (x ∷ xs))
    stands = stand_again (suc n) v (x ∷ xs) (order (suc n) (x ∷ xs)) whole a

    by : (shape v ≡ an_object) ⊎ (shape v ≡ an_array) → ((r : Part) → SameEdits (group r (x ∷ xs)) (order n (group r (x ∷ xs)))) → ((r : Part) → diff n (order n (group r (x ∷ xs))) ≡ diff n (group r (x ∷ xs))) →
        diff (suc n) (order (suc n) (x ∷ xs)) ≡ diff (suc n) (x ∷ xs)
    by (inl o) same ih =
        (let k0 = in_object x.0 x.1 v o (a x (inl refl)).done in
        let e : order (suc n) (x ∷ xs) ≡ document_order (λ r. order n (group r (x ∷ xs))) (x ∷ xs) = rw k0 refl in
        let t : diff (suc n) (x ∷ xs) ≡ document_diff (λ r. diff n (group r (x ∷ xs))) (x ∷ xs) = rw k0 refl in
        let os : List Edit = document_order (λ r. order n (group r (x ∷ xs))) (x ∷ xs) in
        let k : is_array os ≡ false = ap is_array (sym e) ∙ not_array (suc n) v (order (suc n) (x ∷ xs)) o stands in
        let s : diff (suc n) os ≡ document_diff (λ r. diff n (group r os)) os = ap (λ (b : Bool). if b then array_diff (λ r. diff n (group r os)) os else document_diff (λ r. diff n (group r os)) os) k in
        ap (diff (suc n)) e ∙ (s ∙ (document_spelled (x ∷ xs) (λ r. order n (group r (x ∷ xs))) (λ r. diff n (group r (x ∷ xs))) (λ r. diff n (group r os))
        (λ r i. (let d = head_there (x ∷ xs) r i in (d.0, (same r).to d.0 d.1)))
        (λ r i. ap (diff n) (group_again (x ∷ xs) (λ r. order n (group r (x ∷ xs))) r i) ∙ ih r) ∙ sym t)))
    by (inr o) same ih =
        (let k0 = list_is_array x.0 x.1 (in_list x.0 x.1 v o (a x (inl refl)).done) in
        let e : order (suc n) (x ∷ xs) ≡ array_order (λ r. order n (group r (x ∷ xs))) (x ∷ xs) = rw k0 refl in
        let t : diff (suc n) (x ∷ xs) ≡ array_diff (λ r. diff n (group r (x ∷ xs))) (x ∷ xs) = rw k0 refl in
        let os : List Edit = array_order (λ r. order n (group r (x ∷ xs))) (x ∷ xs) in
        let empty : (r : Part) → group r (x ∷ xs) ≡ [] → order n (group r (x ∷ xs)) ≡ [] = λ r h. ap (order n) h ∙ order_nil n in
        let k : is_array os ≡ true = ap is_array (sym e) ∙ some_array (suc n) v (order (suc n) (x ∷ xs)) x o stands (whole.to x (inl refl)) in
        let s : diff (suc n) os ≡ array_diff (λ r. diff n (group r os)) os = ap (λ (b : Bool). if b then array_diff (λ r. diff n (group r os)) os else document_diff (λ r. diff n (group r os)) os) k in
        ap (diff (suc n)) e ∙ (s ∙ (array_spelled (x ∷ xs) (λ r. order n (group r (x ∷ xs))) empty (λ r. diff n (group r (x ∷ xs))) (λ r. diff n (group r os))
        (λ r i. part_there (x ∷ xs) (λ r. order n (group r (x ∷ xs))) r (same r).to i)
        (λ r h. none_left (group r (x ∷ xs)) (order n (group r (x ∷ xs))) (same r) h)
        (λ r i. ap (diff n) (array_group (x ∷ xs) (λ r. order n (group r (x ∷ xs))) empty r i) ∙ ih r) ∙ sym t)))
