-- What the second form writes has distinct names.
use Rattle.std.proofs.Common.{◌≡◌, ℕ, suc, zero, List, [], ◌∷◌, ◌++◌, Bool, true, false, refl, sym, ap, ◌∙◌, subst, inl, inr}
use Rattle.std.specs.Prelude.{◌⊎◌, if◌then◌else◌, Option, Some, None, pos}
use Rattle.bson_value.specs.declared.value.Value.{Value, Object}
use Rattle.bson_value.specs.declared.value.Value.TheVariants.{Bool as Truth, Int}
use Rattle.bson_value.specs.Place.{an_array, an_object, shape, child}
use Rattle.bson_value.specs.Digits.{index_of}
use Rattle.entry_model.specs.Distinct.{AllDistinct}
use Rattle.bson_value.proofs.Digits.{index_of-digits}
use Rattle.doc_path.specs.declared.parts.Part.{Part}
use Rattle.doc_path.specs.declared.parts.Part.TheVariants.{Name as name, Index as index}
use Rattle.doc_path.specs.Touch.{key_of}
use Rattle.entry_model.specs.Edits.{Step, Sets, Unsets, Resizes, Edit, In, onto, picked, mapped, gathered, same_part, behind, group, under, heads, first_in, once, place_in, place_of}
use Rattle.entry_model.specs.Written.{Fields, a_name, d_name, u_name, i_name, l_name, s_of, u_of, section, gone_in, set_in, new_in, gone, set, new, document_diff, length_in, set_at, part_in, parts, below, at_part, array_diff, is_index, in_array, is_array, diff, diff_name, v_name, spelled_v2}
use Rattle.entry_model.specs.Laws.{AllStand, PlacesOnce, HoldsDistinct, AllHoldDistinct, WrittenIsDocument2}
use Rattle.entry_model.proofs.Lists.{one_part, in_either, picked_in, mapped_in, gathered_in}
use Rattle.entry_model.proofs.Standing.{Low, in_object, in_list, list_is_array, somewhere, there, group_stands, group_in, behind_under}
use Rattle.entry_model.proofs.Ordered.{heads_named, parts_low}
use Rattle.entry_model.proofs.Blocks.{NoTwice, once_no_twice, rising_no_twice}
use Rattle.entry_model.proofs.Whole.{stand}
use Rattle.entry_model.proofs.Names.{apart, truth_distinct, int_distinct, Good, good_object, good_empty, good_next, good_append, section_name, good_section, good_picked, good_gathered}

-- ---- groups

under_place : (r : Part) (ps : List Part) (s : Step) → place_in (r ∷ ps) s ≡ r ∷ place_in ps s
under_place r ps (Sets p a fresh) = refl
under_place r ps (Unsets p) = refl
under_place r ps (Resizes n) = refl

group_once : (r : Part) (es : List Edit) → PlacesOnce es → PlacesOnce (group r es)
group_once r [] o = tt
group_once r (e ∷ es) o = by (behind r e) refl (group_once r es o.1)
  where
    by : (b : Option Edit) → behind r e ≡ b → PlacesOnce (group r es) → PlacesOnce (onto b (group r es))
    by None p h = h
    by (Some d) p h = (
      (λ c i q.
          (let k : under r d ≡ e = behind_under r e.0 e.1 d p in
          o.0 (under r c) (group_in r es c i)
          (under_place r c.0 c.1 ∙ (ap (λ (qs : List Part). r ∷ qs) q ∙ (sym (under_place r d.0 d.1) ∙ ap place_of k))))),
      h,
    )

group_hold : (r : Part) (es : List Edit) → AllHoldDistinct es → AllHoldDistinct (group r es)
group_hold r es h d i = h (under r d) (group_in r es d i)

-- ---- what is picked

gone_place : (ps : List Part) (s : Step) (f : List ℕ × Value) → gone_in ps s ≡ Some f → place_in ps s ≡ name f.0 ∷ []
gone_place [] (Unsets (name k)) f e = let h : (k, Truth false) ≡ f = cc in ap (λ (g : List ℕ × Value). name g.0 ∷ []) h
gone_place [] (Unsets (index n)) f e = cc
gone_place [] (Sets p a fresh) f e = cc
gone_place [] (Resizes n) f e = cc
gone_place (p ∷ ps) s f e = cc

gone_held : (ps : List Part) (s : Step) (f : List ℕ × Value) → gone_in ps s ≡ Some f → AllDistinct f.1
gone_held [] (Unsets (name k)) f e = let h : (k, Truth false) ≡ f = cc in subst (λ (g : List ℕ × Value). AllDistinct g.1) h (truth_distinct false)
gone_held [] (Unsets (index n)) f e = cc
gone_held [] (Sets p a fresh) f e = cc
gone_held [] (Resizes n) f e = cc
gone_held (p ∷ ps) s f e = cc

set_place : (ps : List Part) (s : Step) (f : List ℕ × Value) → set_in ps s ≡ Some f → place_in ps s ≡ name f.0 ∷ []
set_place [] (Sets (name k) a false) f e = let h : (k, a) ≡ f = cc in ap (λ (g : List ℕ × Value). name g.0 ∷ []) h
set_place [] (Sets (name k) a true) f e = cc
set_place [] (Sets (index n) a fresh) f e = cc
set_place [] (Unsets p) f e = cc
set_place [] (Resizes n) f e = cc
set_place (p ∷ ps) s f e = cc

set_held : (ps : List Part) (s : Step) (f : List ℕ × Value) → HoldsDistinct s → set_in ps s ≡ Some f → AllDistinct f.1
set_held [] (Sets (name k) a false) f d e = let h : (k, a) ≡ f = cc in subst (λ (g : List ℕ × Value). AllDistinct g.1) h d
set_held [] (Sets (name k) a true) f d e = cc
set_held [] (Sets (index n) a fresh) f d e = cc
set_held [] (Unsets p) f d e = cc
set_held [] (Resizes n) f d e = cc
set_held (p ∷ ps) s f d e = cc

new_place : (ps : List Part) (s : Step) (f : List ℕ × Value) → new_in ps s ≡ Some f → place_in ps s ≡ name f.0 ∷ []
new_place [] (Sets (name k) a true) f e = let h : (k, a) ≡ f = cc in ap (λ (g : List ℕ × Value). name g.0 ∷ []) h
new_place [] (Sets (name k) a false) f e = cc
new_place [] (Sets (index n) a fresh) f e = cc
new_place [] (Unsets p) f e = cc
new_place [] (Resizes n) f e = cc
new_place (p ∷ ps) s f e = cc

new_held : (ps : List Part) (s : Step) (f : List ℕ × Value) → HoldsDistinct s → new_in ps s ≡ Some f → AllDistinct f.1
new_held [] (Sets (name k) a true) f d e = let h : (k, a) ≡ f = cc in subst (λ (g : List ℕ × Value). AllDistinct g.1) h d
new_held [] (Sets (name k) a false) f d e = cc
new_held [] (Sets (index n) a fresh) f d e = cc
new_held [] (Unsets p) f d e = cc
new_held [] (Resizes n) f d e = cc
new_held (p ∷ ps) s f d e = cc

length_place : (ps : List Part) (s : Step) (f : List ℕ × Value) → length_in ps s ≡ Some f → place_in ps s ≡ []
length_place [] (Resizes n) f e = refl
length_place [] (Sets p a fresh) f e = cc
length_place [] (Unsets p) f e = cc
length_place (p ∷ ps) s f e = cc

length_field : (ps : List Part) (s : Step) (f : List ℕ × Value) → length_in ps s ≡ Some f → (f.0 ≡ l_name) × AllDistinct f.1
length_field [] (Resizes n) f e = let h : (l_name, Int (pos n)) ≡ f = cc in (sym (ap (λ (g : List ℕ × Value). g.0) h), subst (λ (g : List ℕ × Value). AllDistinct g.1) h (int_distinct (pos n)))
length_field [] (Sets p a fresh) f e = cc
length_field [] (Unsets p) f e = cc
length_field (p ∷ ps) s f e = cc

at_field : (r : Part) (ps : List Part) (s : Step) (f : List ℕ × Value) → HoldsDistinct s → set_at r ps s ≡ Some f → (f.0 ≡ u_of r) × (place_in ps s ≡ r ∷ []) × AllDistinct f.1
at_field r [] (Sets p a fresh) f d e = by (same_part p r) refl e
  where
    by : (b : Bool) → same_part p r ≡ b → (if b then Some (u_of p, a) else None) ≡ Some f → (f.0 ≡ u_of r) × (p ∷ [] ≡ r ∷ []) × AllDistinct f.1
    by true k g =
        (let h : (u_of p, a) ≡ f = cc in
        let q : p ≡ r = one_part p r k in
        (sym (ap (λ (x : List ℕ × Value). x.0) h) ∙ ap u_of q, ap (λ (z : Part). z ∷ []) q, subst (λ (x : List ℕ × Value). AllDistinct x.1) h d))
    by false k g = cc
at_field r [] (Unsets p) f d e = cc
at_field r [] (Resizes n) f d e = cc
at_field r (p ∷ ps) s f d e = cc

named_places : (pick : List Part → Step → Option (List ℕ × Value)) → ((ps : List Part) (s : Step) (f : List ℕ × Value) → pick ps s ≡ Some f → place_in ps s ≡ name f.0 ∷ []) →
    (e d : Edit) (f g : List ℕ × Value) → pick e.0 e.1 ≡ Some f → pick d.0 d.1 ≡ Some g → f.0 ≡ g.0 → place_of d ≡ place_of e
named_places pick place e d f g a b q = place d.0 d.1 g b ∙ (ap (λ (k : List ℕ). name k ∷ []) (sym q) ∙ sym (place e.0 e.1 f a))

-- ---- a document

one_key : (p q : Part) → is_index p ≡ is_index q → key_of p ≡ key_of q → p ≡ q
one_key (name j) (name k) i e = ap name e
one_key (name j) (index n) i e = cc
one_key (index m) (name k) i e = cc
one_key (index m) (index n) i e = let h : Some m ≡ Some n = sym (index_of-digits m) ∙ (ap index_of e ∙ index_of-digits n) in let k : m ≡ n = cc in ap index k

abbrev subs : (Part → Fields) → List Part → Fields
subs go rs = mapped (λ r. (s_of r, Object (go r))) rs

sub_name : (go : Part → Fields) (rs : List Part) (f : List ℕ × Value) → In f (subs go rs) → (r : Part) × In r rs × (f.0 ≡ s_of r)
sub_name go rs f h = let x = mapped_in (λ (r : Part). (s_of r, Object (go r))) rs f h in (x.0, x.1, ap (λ (z : List ℕ × Value). z.0) x.2)

good_subs : (go : Part → Fields) (rs : List Part) → NoTwice rs → ((r : Part) → In r rs → is_index r ≡ false) → ((r : Part) → Good (go r)) → Good (subs go rs)
good_subs go [] t i g = good_empty
good_subs go (r ∷ rs) t i g =
    good_next (s_of r, Object (go r)) (subs go rs) (good_object (go r) (g r))
    (λ f h e. (let x = sub_name go rs f h in
    let s : s_of r ≡ s_of x.0 = e ∙ x.2 in
    let k : key_of r ≡ key_of x.0 = cc in
    let q : r ≡ x.0 = one_key r x.0 (i r (inl refl) ∙ sym (i x.0 (inr x.1))) k in
    t.0 (subst (λ (z : Part). In z rs) (sym q) x.1)))
    (good_subs go rs t.1 (λ q h. i q (inr h)) g)

module _ (go : Part → Fields) (good : (r : Part) → Good (go r)) (es : List Edit) (once' : PlacesOnce es) (hold : AllHoldDistinct es) where
  good_gone : Good (gone es)
  good_gone = good_picked gone_in es (λ e d f g i j. named_places gone_in gone_place e d f g) (λ e f i. gone_held e.0 e.1 f) once'

  good_set : Good (set es)
  good_set = good_picked set_in es (λ e d f g i j. named_places set_in set_place e d f g) (λ e f i. set_held e.0 e.1 f (hold e i)) once'

  good_new : Good (new es)
  good_new = good_picked new_in es (λ e d f g i j. named_places new_in new_place e d f g) (λ e f i. new_held e.0 e.1 f (hold e i)) once'

  -- the names behind
  abbrev From : (List ℕ × Value) → List (List ℕ) → Type 0
  From f ks = In f.0 ks ⊎ ((r : Part) × (f.0 ≡ s_of r))

  after_i : (f : List ℕ × Value) → In f (section i_name (new es) ++ subs go (heads es)) → From f (i_name ∷ [])
  after_i f h = by (in_either (section i_name (new es)) (subs go (heads es)) f h)
    where
      by : In f (section i_name (new es)) ⊎ In f (subs go (heads es)) → From f (i_name ∷ [])
      by (inl i) = inl (inl (section_name i_name (new es) f i))
      by (inr i) = (let x = sub_name go (heads es) f i in inr (x.0, x.2))

  after_u : (f : List ℕ × Value) → In f (section u_name (set es) ++ (section i_name (new es) ++ subs go (heads es))) → From f (u_name ∷ (i_name ∷ []))
  after_u f h = by (in_either (section u_name (set es)) (section i_name (new es) ++ subs go (heads es)) f h)
    where
      more : From f (i_name ∷ []) → From f (u_name ∷ (i_name ∷ []))
      more (inl i) = inl (inr i)
      more (inr x) = inr x

      by : In f (section u_name (set es)) ⊎ In f (section i_name (new es) ++ subs go (heads es)) → From f (u_name ∷ (i_name ∷ []))
      by (inl i) = inl (inl (section_name u_name (set es) f i))
      by (inr i) = more (after_i f i)

  i_apart : (k : List ℕ) (f : List ℕ × Value) → k ≡ i_name → (r : Part) × (f.0 ≡ s_of r) → k ≡ f.0 → ⊥
  i_apart k f a x e = apart 105 115 [] (key_of x.0) refl (sym a ∙ (e ∙ x.1))

  u_apart : (k : List ℕ) (f : List ℕ × Value) → k ≡ u_name → From f (i_name ∷ []) → k ≡ f.0 → ⊥
  u_apart k f a (inl (inl x)) e = apart 117 105 [] [] refl (sym a ∙ (e ∙ x))
  u_apart k f a (inl (inr x)) e = absurd x
  u_apart k f a (inr x) e = apart 117 115 [] (key_of x.0) refl (sym a ∙ (e ∙ x.1))

  d_apart : (k : List ℕ) (f : List ℕ × Value) → k ≡ d_name → From f (u_name ∷ (i_name ∷ [])) → k ≡ f.0 → ⊥
  d_apart k f a (inl (inl x)) e = apart 100 117 [] [] refl (sym a ∙ (e ∙ x))
  d_apart k f a (inl (inr (inl x))) e = apart 100 105 [] [] refl (sym a ∙ (e ∙ x))
  d_apart k f a (inl (inr (inr x))) e = absurd x
  d_apart k f a (inr x) e = apart 100 115 [] (key_of x.0) refl (sym a ∙ (e ∙ x.1))

  good_document : ((r : Part) → In r (heads es) → is_index r ≡ false) → Good (document_diff go es)
  good_document named =
      let ss = good_subs go (heads es) (once_no_twice (picked (λ e. first_in e.0) es)) named good in
      let i = good_append (section i_name (new es)) (subs go (heads es)) (good_section i_name (new es) good_new) ss
      (λ f g a b. i_apart f.0 g (section_name i_name (new es) f a) (let x = sub_name go (heads es) g b in (x.0, x.2))) in
      let u = good_append (section u_name (set es)) (section i_name (new es) ++ subs go (heads es)) (good_section u_name (set es) good_set) i
      (λ f g a b. u_apart f.0 g (section_name u_name (set es) f a) (after_i g b)) in
      good_append (section d_name (gone es)) (section u_name (set es) ++ (section i_name (new es) ++ subs go (heads es))) (good_section d_name (gone es) good_gone) u
      (λ f g a b. d_apart f.0 g (section_name d_name (gone es) f a) (after_u g b))

  -- ---- an array

  good_lengths : Good (picked (λ e. length_in e.0 e.1) es)
  good_lengths = good_picked length_in es (λ e d f g i j a b q. length_place d.0 d.1 g b ∙ sym (length_place e.0 e.1 f a)) (λ e f i a. (length_field e.0 e.1 f a).1) once'

  good_sets : (r : Part) → Good (picked (λ e. set_at r e.0 e.1) es)
  good_sets r = good_picked (set_at r) es (λ e d f g i j a b q. (at_field r d.0 d.1 g (hold d j) b).1 ∙ sym (at_field r e.0 e.1 f (hold e i) a).1) (λ e f i a. (at_field r e.0 e.1 f (hold e i) a).2) once'

  below_name : (r : Part) (gs : List Edit) (f : List ℕ × Value) → In f (below go r gs) → f.0 ≡ s_of r
  below_name r [] f h = absurd h
  below_name r (x ∷ gs) f (inl e) = ap (λ (z : List ℕ × Value). z.0) e
  below_name r (x ∷ gs) f (inr h) = absurd h

  good_below : (r : Part) (gs : List Edit) → Good (below go r gs)
  good_below r [] = good_empty
  good_below r (x ∷ gs) = good_next (s_of r, Object (go r)) [] (good_object (go r) (good r)) (λ h i. absurd i) good_empty

  set_name' : (r : Part) (f : List ℕ × Value) → In f (picked (λ e. set_at r e.0 e.1) es) → f.0 ≡ u_of r
  set_name' r f h = let y = picked_in (λ (e : Edit). set_at r e.0 e.1) es f h in (at_field r y.0.0 y.0.1 f (hold y.0 y.1) y.2).0

  part_name : (r : Part) (f : List ℕ × Value) → In f (at_part go es r) → (f.0 ≡ u_of r) ⊎ (f.0 ≡ s_of r)
  part_name r f h = by (in_either (picked (λ e. set_at r e.0 e.1) es) (below go r (group r es)) f h)
    where
      by : In f (picked (λ e. set_at r e.0 e.1) es) ⊎ In f (below go r (group r es)) → (f.0 ≡ u_of r) ⊎ (f.0 ≡ s_of r)
      by (inl i) = inl (set_name' r f i)
      by (inr i) = inr (below_name r (group r es) f i)

  good_part : (r : Part) → Good (at_part go es r)
  good_part r =
      good_append (picked (λ e. set_at r e.0 e.1) es) (below go r (group r es)) (good_sets r) (good_below r (group r es))
      (λ f g a b e. apart 117 115 (key_of r) (key_of r) refl (sym (set_name' r f a) ∙ (e ∙ below_name r (group r es) g b)))

  one_of : (r q : Part) (x y : List ℕ × Value) → is_index r ≡ is_index q → (x.0 ≡ u_of r) ⊎ (x.0 ≡ s_of r) → (y.0 ≡ u_of q) ⊎ (y.0 ≡ s_of q) → x.0 ≡ y.0 → r ≡ q
  one_of r q x y i (inl a) (inl b) e = let h : u_of r ≡ u_of q = sym a ∙ (e ∙ b) in let k : key_of r ≡ key_of q = cc in one_key r q i k
  one_of r q x y i (inl a) (inr b) e = absurd (apart 117 115 (key_of r) (key_of q) refl (sym a ∙ (e ∙ b)))
  one_of r q x y i (inr a) (inl b) e = absurd (apart 115 117 (key_of r) (key_of q) refl (sym a ∙ (e ∙ b)))
  one_of r q x y i (inr a) (inr b) e = let h : s_of r ≡ s_of q = sym a ∙ (e ∙ b) in let k : key_of r ≡ key_of q = cc in one_key r q i k

  low_index : (r : Part) → Low r → is_index r ≡ true
  low_index (name k) l = absurd l
  low_index (index n) l = refl

  good_parts : ((r : Part) → In r (parts es) → Low r) → Good (gathered (at_part go es) (parts es))
  good_parts low =
      good_gathered (at_part go es) (parts es) (rising_no_twice (once (picked (λ e. part_in e.0 e.1) es)) (once_no_twice (picked (λ e. part_in e.0 e.1) es))) (λ r i. good_part r)
      (λ r q x y i j a b. one_of r q x y (low_index r (low r i) ∙ sym (low_index q (low q j))) (part_name r x a) (part_name q y b))

  length_name : (f : List ℕ × Value) → In f (picked (λ e. length_in e.0 e.1) es) → f.0 ≡ l_name
  length_name f h = let y = picked_in (λ (e : Edit). length_in e.0 e.1) es f h in (length_field y.0.0 y.0.1 f y.2).0

  l_apart : (f : List ℕ × Value) (r : Part) → (f.0 ≡ u_of r) ⊎ (f.0 ≡ s_of r) → l_name ≡ f.0 → ⊥
  l_apart f r (inl a) e = apart 108 117 [] (key_of r) refl (e ∙ a)
  l_apart f r (inr a) e = apart 108 115 [] (key_of r) refl (e ∙ a)

  a_apart : (f : List ℕ × Value) (r : Part) → (f.0 ≡ u_of r) ⊎ (f.0 ≡ s_of r) → a_name ≡ f.0 → ⊥
  a_apart f r (inl a) e = apart 97 117 [] (key_of r) refl (e ∙ a)
  a_apart f r (inr a) e = apart 97 115 [] (key_of r) refl (e ∙ a)

  behind_a : (f : List ℕ × Value) → In f (picked (λ e. length_in e.0 e.1) es ++ gathered (at_part go es) (parts es)) → a_name ≡ f.0 → ⊥
  behind_a f h e = by (in_either (picked (λ e. length_in e.0 e.1) es) (gathered (at_part go es) (parts es)) f h)
    where
      by : In f (picked (λ e. length_in e.0 e.1) es) ⊎ In f (gathered (at_part go es) (parts es)) → ⊥
      by (inl i) = apart 97 108 [] [] refl (e ∙ length_name f i)
      by (inr i) = (let x = gathered_in (at_part go es) (parts es) f i in a_apart f x.0 (part_name x.0 f x.2) e)

  good_array : ((r : Part) → In r (parts es) → Low r) → Good (array_diff go es)
  good_array low =
      good_next (a_name, Truth true) (picked (λ e. length_in e.0 e.1) es ++ gathered (at_part go es) (parts es)) (truth_distinct true) behind_a
      (good_append (picked (λ e. length_in e.0 e.1) es) (gathered (at_part go es) (parts es)) good_lengths (good_parts low)
      (λ f g a b e. (let x = gathered_in (at_part go es) (parts es) g b in l_apart g x.0 (part_name x.0 g x.2) (sym (length_name f a) ∙ e))))

-- ---- a level, and all

good_level : (go : Part → Fields) (n : ℕ) (v : Value) (es : List Edit) → ((r : Part) → Good (go r)) → AllStand n v es → PlacesOnce es → AllHoldDistinct es → Good (if is_array es then array_diff go es else document_diff go es)
good_level go n v [] g a o h = good_empty
good_level go n v (x ∷ xs) g a o h = by (somewhere x.0 x.1 v (a x (inl refl)).done)
  where
    by : (shape v ≡ an_object) ⊎ (shape v ≡ an_array) → Good (if in_array x.0 x.1 then array_diff go (x ∷ xs) else document_diff go (x ∷ xs))
    by (inl k) = rw (in_object x.0 x.1 v k (a x (inl refl)).done) (good_document go g (x ∷ xs) o h (heads_named n v (x ∷ xs) a k))
    by (inr k) = rw (list_is_array x.0 x.1 (in_list x.0 x.1 v k (a x (inl refl)).done)) (good_array go g (x ∷ xs) o h (parts_low n v (x ∷ xs) a k))

pub good_diff : (n : ℕ) (v : Value) (es : List Edit) → AllStand n v es → PlacesOnce es → AllHoldDistinct es → Good (diff n es)
good_diff zero v es a o h = good_empty
good_diff (suc n) v es a o h =
    good_level (λ r. diff n (group r es)) (suc n) v es
    (λ r. good_diff n (there (child v (key_of r))) (group r es) (group_stands n v es r a) (group_once r es o) (group_hold r es h)) a o h

pub second_document : WrittenIsDocument2
second_document n es old new w o h =
    good_object (spelled_v2 n es) (good_next (v_name, Int (pos 2)) ((diff_name, Object (diff n es)) ∷ []) (int_distinct (pos 2)) apart'
    (good_next (diff_name, Object (diff n es)) [] (good_object (diff n es) (good_diff n new es (stand n es old new w) o h)) (λ g i. absurd i) good_empty))
  where
    apart' : (g : List ℕ × Value) → In g ((diff_name, Object (diff n es)) ∷ []) → v_name ≡ g.0 → ⊥
    apart' g (inl e) p = apart 36 100 (118 ∷ []) (105 ∷ (102 ∷ (102 ∷ []))) refl (p ∙ ap (λ (z : List ℕ × Value). z.0) e)
    apart' g (inr i) p = absurd i
