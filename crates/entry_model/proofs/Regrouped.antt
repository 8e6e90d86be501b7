-- What is picked of edits in the order in which a diff spells them, and how they are grouped.
use Rattle.std.proofs.Common.{◌≡◌, ℕ, suc, zero, List, [], ◌∷◌, ◌++◌, Bool, true, false, refl, sym, ap, ◌∙◌, subst, inl, inr}
use Rattle.std.specs.Prelude.{◌⊎◌, if◌then◌else◌, Option, Some, None}
use Rattle.bson_value.specs.declared.value.Value.{Value}
use Rattle.doc_path.specs.declared.parts.Part.{Part}
use Rattle.entry_model.specs.Edits.{Step, Sets, Unsets, Resizes, Edit, In, picked, mapped, gathered, same_part, behind, group, under, heads, first_in, once, rising}
use Rattle.entry_model.specs.Written.{gone, set, new, part_in, parts}
use Rattle.entry_model.specs.Reads.{unset_of, set_of}
use Rattle.entry_model.specs.Laws.{AllStand, SameEdits}
use Rattle.entry_model.proofs.Lists.{own_part, in_left, in_right, in_either, picked_in, picked_has, mapped_has, once_in, rising_in}
use Rattle.entry_model.proofs.Ordered.{below_order, document_order, length_edit, edit_at, part_order, array_order, order}
use Rattle.entry_model.proofs.Members.{group_has}
use Rattle.entry_model.proofs.Blocks.{picked_append, picked_none, gathered_same, gathered_none, mapped_none, picked_gathered, NoTwice, one_block, once_blocks, once_no_twice, rising_no_twice, rising_again, behind_own, behind_other, firsts_are}

-- ---- a document

module _ (es : List Edit) (og : Part → List Edit) where
  abbrev pub A : List Edit
  A = mapped unset_of (gone es)

  abbrev pub B : List Edit
  B = mapped (set_of false) (set es)

  abbrev pub C : List Edit
  C = mapped (set_of true) (new es)

  abbrev pub block : Part → List Edit
  block r = mapped (under r) (og r)

  abbrev pub S : List Edit
  S = gathered block (heads es)

  pub four : {X : Type 0} (f : Edit → Option X) → picked f (document_order og es) ≡ picked f A ++ (picked f B ++ (picked f C ++ picked f S))
  four f =
      picked_append f A (B ++ (C ++ S)) ∙ ap (λ (l : List _). picked f A ++ l)
      (picked_append f B (C ++ S) ∙ ap (λ (l : List _). picked f B ++ l) (picked_append f C S))

  pub below_none : {X : Type 0} (f : Edit → Option X) → ((r : Part) (d : Edit) → f (under r d) ≡ None) → picked f S ≡ []
  below_none f h = picked_gathered f block (heads es) ∙ gathered_none (λ r. picked f (block r)) (heads es) (λ r i. mapped_none f (under r) (og r) (h r))

  all_tags : (r : Part) (ds : List Edit) (q : Part) → In q (mapped (λ (e : Edit). r) ds) → q ≡ r
  all_tags r [] q h = absurd h
  all_tags r (d ∷ ds) q (inl e) = e
  all_tags r (d ∷ ds) q (inr h) = all_tags r ds q h

  some_tag : (r : Part) (ds : List Edit) (d : Edit) → In d ds → In r (mapped (λ (e : Edit). r) ds)
  some_tag r ds d h = mapped_has (λ (e : Edit). r) ds d h

  pub heads_again : ((r : Part) → In r (heads es) → (d : Edit) × In d (og r)) → heads (document_order og es) ≡ heads es
  heads_again some =
      let f : Edit → Option Part = λ e. first_in e.0 in
      let a : picked f A ≡ [] = mapped_none f unset_of (gone es) (λ x. refl) in
      let b : picked f B ≡ [] = mapped_none f (set_of false) (set es) (λ x. refl) in
      let c : picked f C ≡ [] = mapped_none f (set_of true) (new es) (λ x. refl) in
      let s : picked f S ≡ gathered (λ r. mapped (λ (e : Edit). r) (og r)) (heads es) =
      picked_gathered f block (heads es) ∙ gathered_same (λ r. picked f (block r)) (λ r. mapped (λ (e : Edit). r) (og r)) (heads es) (λ r i. firsts_are r (og r)) in
      let all : picked f (document_order og es) ≡ gathered (λ r. mapped (λ (e : Edit). r) (og r)) (heads es) = four f ∙ (λ i. a i ++ (b i ++ (c i ++ s i))) in
      ap once all ∙ once_blocks (λ r. mapped (λ (e : Edit). r) (og r)) (heads es) (once_no_twice (picked (λ e. first_in e.0) es))
      (λ r i q h. all_tags r (og r) q h) (λ r i. some_tag r (og r) (some r i).0 (some r i).1)

  pub group_again : (r : Part) → In r (heads es) → group r (document_order og es) ≡ og r
  group_again r h =
      let f : Edit → Option Edit = behind r in
      let a : picked f A ≡ [] = mapped_none f unset_of (gone es) (λ x. refl) in
      let b : picked f B ≡ [] = mapped_none f (set_of false) (set es) (λ x. refl) in
      let c : picked f C ≡ [] = mapped_none f (set_of true) (new es) (λ x. refl) in
      let s : picked f S ≡ og r =
      picked_gathered f block (heads es)
      ∙ (one_block (λ q. picked f (block q)) (heads es) r (once_no_twice (picked (λ e. first_in e.0) es)) h (λ q n. behind_other r q (og q) n) ∙ behind_own r (og r)) in
      four f ∙ (λ i. a i ++ (b i ++ (c i ++ s i)))

-- ---- an array

-- what is picked of lengths, and of Sets at one index
pub length_is : (ps : List Part) (s : Step) (d : Edit) → length_edit ps s ≡ Some d → (n : ℕ) × (d ≡ ([], Resizes n))
length_is [] (Resizes n) d e = (n, cc)
length_is [] (Sets p a fresh) d e = cc
length_is [] (Unsets p) d e = cc
length_is (p ∷ ps) s d e = cc

pub edit_is : (r : Part) (ps : List Part) (s : Step) (d : Edit) → edit_at r ps s ≡ Some d → (a : Value) × (d ≡ ([], Sets r a false))
edit_is r [] (Sets p a fresh) d e = by (same_part p r) e
  where
    by : (b : Bool) → (if b then Some ([], Sets r a false) else None) ≡ Some d → (a : Value) × (d ≡ ([], Sets r a false))
    by true f = (a, cc)
    by false f = cc
edit_is r [] (Unsets p) d e = cc
edit_is r [] (Resizes m) d e = cc
edit_is r (p ∷ ps) s d e = cc

pub lengths_none : {X : Type 0} (f : Edit → Option X) (es : List Edit) → ((n : ℕ) → f ([], Resizes n) ≡ None) → picked f (picked (λ e. length_edit e.0 e.1) es) ≡ []
lengths_none f es h =
    picked_none f (picked (λ e. length_edit e.0 e.1) es) (λ d i. (let y = picked_in (λ (e : Edit). length_edit e.0 e.1) es d i in let z = length_is y.0.0 y.0.1 d y.2 in ap f z.1 ∙ h z.0))

pub sets_none : {X : Type 0} (f : Edit → Option X) (r : Part) (es : List Edit) → ((a : Value) → f ([], Sets r a false) ≡ None) → picked f (picked (λ e. edit_at r e.0 e.1) es) ≡ []
sets_none f r es h =
    picked_none f (picked (λ e. edit_at r e.0 e.1) es) (λ d i. (let y = picked_in (λ (e : Edit). edit_at r e.0 e.1) es d i in let z = edit_is r y.0.0 y.0.1 d y.2 in ap f z.1 ∙ h z.0))

below_is : (og : Part → List Edit) (r : Part) (gs : List Edit) → (gs ≡ [] → og r ≡ []) → below_order og r gs ≡ mapped (under r) (og r)
below_is og r [] h = ap (mapped (under r)) (sym (h refl))
below_is og r (g ∷ gs) h = refl

module _ (es : List Edit) (og : Part → List Edit) (empty : (r : Part) → group r es ≡ [] → og r ≡ []) where
  abbrev pub L : List Edit
  L = picked (λ e. length_edit e.0 e.1) es

  abbrev pub G : List Edit
  G = gathered (part_order og es) (parts es)

  abbrev pub U : Part → List Edit
  U r = picked (λ e. edit_at r e.0 e.1) es

  pub parts_no_twice : NoTwice (parts es)
  parts_no_twice = rising_no_twice (once (picked (λ e. part_in e.0 e.1) es)) (once_no_twice (picked (λ e. part_in e.0 e.1) es))

  pub two : {X : Type 0} (f : Edit → Option X) → picked f (array_order og es) ≡ picked f L ++ gathered (λ r. picked f (part_order og es r)) (parts es)
  two f = picked_append f L G ∙ ap (λ (l : List _). picked f L ++ l) (picked_gathered f (part_order og es) (parts es))

  pub part_two : {X : Type 0} (f : Edit → Option X) (r : Part) → picked f (part_order og es r) ≡ picked f (U r) ++ picked f (mapped (under r) (og r))
  part_two f r = picked_append f (U r) (below_order og r (group r es)) ∙ ap (λ (l : List Edit). picked f (U r) ++ picked f l) (below_is og r (group r es) (empty r))

  pub array_group : (r : Part) → In r (parts es) → group r (array_order og es) ≡ og r
  array_group r h =
      let f : Edit → Option Edit = behind r in
      let a : picked f L ≡ [] = lengths_none f es (λ n. refl) in
      let sets : (q : Part) → picked f (U q) ≡ [] = λ q. sets_none f q es (λ a. refl) in
      let other : (q : Part) → (q ≡ r → ⊥) → picked f (part_order og es q) ≡ [] = λ q n. part_two f q ∙ (let x = sets q in let y = behind_other r q (og q) n in λ k. x k ++ y k) in
      let own : picked f (part_order og es r) ≡ og r = part_two f r ∙ (let x = sets r in let y = behind_own r (og r) in λ k. x k ++ y k) in
      let b : gathered (λ q. picked f (part_order og es q)) (parts es) ≡ og r = one_block (λ q. picked f (part_order og es q)) (parts es) r parts_no_twice h other ∙ own in
      two f ∙ (λ i. a i ++ b i)

  in_tags : (r q : Part) → In q (picked (λ e. part_in e.0 e.1) (part_order og es r)) → q ≡ r
  in_tags r q h = by (in_either (picked (λ e. part_in e.0 e.1) (U r)) (picked (λ e. part_in e.0 e.1) (mapped (under r) (og r))) q (subst (λ (l : List Part). In q l) (part_two (λ (e : Edit). part_in e.0 e.1) r) h))
    where
      set_tag : In q (picked (λ e. part_in e.0 e.1) (U r)) → q ≡ r
      set_tag i =
          let x = picked_in (λ (e : Edit). part_in e.0 e.1) (U r) q i in
          let y = picked_in (λ (e : Edit). edit_at r e.0 e.1) es x.0 x.1 in
          let z = edit_is r y.0.0 y.0.1 x.0 y.2 in
          let w : Some r ≡ Some q = sym (ap (λ (e : Edit). part_in e.0 e.1) z.1) ∙ x.2 in
          cc

      tagged : (ds : List Edit) → In q (picked (λ e. part_in e.0 e.1) (mapped (under r) ds)) → q ≡ r
      tagged [] i = absurd i
      tagged (d ∷ ds) (inl e) = e
      tagged (d ∷ ds) (inr i) = tagged ds i

      by : In q (picked (λ e. part_in e.0 e.1) (U r)) ⊎ In q (picked (λ e. part_in e.0 e.1) (mapped (under r) (og r))) → q ≡ r
      by (inl i) = set_tag i
      by (inr i) = tagged (og r) i

  pub array_parts : ((r : Part) → In r (parts es) → In r (picked (λ e. part_in e.0 e.1) (part_order og es r))) → parts (array_order og es) ≡ parts es
  array_parts some =
      let f : Edit → Option Part = λ e. part_in e.0 e.1 in
      let a : picked f L ≡ [] = lengths_none f es (λ n. refl) in
      let all : picked f (array_order og es) ≡ gathered (λ r. picked f (part_order og es r)) (parts es) = two f ∙ ap (λ (l : List Part). l ++ gathered (λ r. picked f (part_order og es r)) (parts es)) a in
      ap (λ (l : List Part). rising (once l)) all
      ∙ (ap rising (once_blocks (λ r. picked f (part_order og es r)) (parts es) parts_no_twice (λ r i q h. in_tags r q h) some)
      ∙ rising_again (once (picked (λ e. part_in e.0 e.1) es)))

-- ---- a part of an array has something

module _ (es : List Edit) (og : Part → List Edit) (r : Part) (to : (d : Edit) → In d (group r es) → In d (og r)) where
  abbrev P : List Edit
  P = part_order og es r

  below_there : (gs : List Edit) (d : Edit) → In d gs → In d (og r) → In (under r d) (below_order og r gs)
  below_there [] d g h = absurd g
  below_there (x ∷ gs) d g h = mapped_has (under r) (og r) d h

  tagged_by : (ps : List Part) (s : Step) → In (ps, s) es → part_in ps s ≡ Some r → In r (picked (λ e. part_in e.0 e.1) (part_order og es r))
  tagged_by (p ∷ ps) s h e =
      let k : p ≡ r = cc in
      let g : In (ps, s) (group r es) = group_has r ps s es (subst (λ (q : Part). In (q ∷ ps, s) es) k h) in
      picked_has (λ (e : Edit). part_in e.0 e.1) P (r ∷ ps, s) r (in_right (picked (λ e. edit_at r e.0 e.1) es) (below_order og r (group r es)) (r ∷ ps, s) (below_there (group r es) (ps, s) g (to (ps, s) g))) refl
  tagged_by [] (Sets p a fresh) h e =
      let k : p ≡ r = cc in
      let o : same_part p r ≡ true = ap (λ (q : Part). same_part q r) k ∙ own_part r in
      picked_has (λ (e : Edit). part_in e.0 e.1) P ([], Sets r a false) r (in_left (picked (λ e. edit_at r e.0 e.1) es) (below_order og r (group r es)) ([], Sets r a false)
      (picked_has (λ (e : Edit). edit_at r e.0 e.1) es ([], Sets p a fresh) ([], Sets r a false) h (rw o refl))) refl
  tagged_by [] (Unsets p) h e = cc
  tagged_by [] (Resizes n) h e = cc

  pub part_there : In r (parts es) → In r (picked (λ e. part_in e.0 e.1) (part_order og es r))
  part_there h =
      let x = picked_in (λ (e : Edit). part_in e.0 e.1) es r (once_in (picked (λ e. part_in e.0 e.1) es) r (rising_in (once (picked (λ e. part_in e.0 e.1) es)) r h)) in
      tagged_by x.0.0 x.0.1 x.1 x.2

-- below a head there is something
pub head_there : (es : List Edit) (r : Part) → In r (heads es) → (d : Edit) × In d (group r es)
head_there es r h =
    let x = picked_in (λ (e : Edit). first_in e.0) es r (once_in (picked (λ e. first_in e.0) es) r h) in
    by x.0.0 x.0.1 x.1 x.2
  where
    by : (ps : List Part) (s : Step) → In (ps, s) es → first_in ps ≡ Some r → (d : Edit) × In d (group r es)
    by [] s i e = cc
    by (p ∷ ps) s i e = (let k : p ≡ r = cc in ((ps, s), group_has r ps s es (subst (λ (q : Part). In (q ∷ ps, s) es) k i)))

pub order_nil : (n : ℕ) → order n [] ≡ []
order_nil zero = refl
order_nil (suc n) = refl

pub stand_again : (n : ℕ) (v : Value) (es ds : List Edit) → SameEdits es ds → AllStand n v es → AllStand n v ds
stand_again n v es ds s a e h = a e (s.from e h)
