-- Reading gives the edits in the order in which the diff spells them.
use Rattle.std.proofs.Common.{◌≡◌, ℕ, suc, zero, ◌<◌, ◌^◌, List, [], ◌∷◌, ◌++◌, Bool, true, false, refl, sym, ap, ◌∙◌, subst, arith, inl, inr, append_assoc}
use Rattle.std.specs.Prelude.{◌⊎◌, if◌then◌else◌, Option, Some, None, option_map, nat_lt, pos, ◌==◌}
use Rattle.std.proofs.lemmas.Grind.{common_steps}
use Rattle.containers.specs.Entries.{lookup}
use Rattle.bson_value.specs.declared.value.Value.{Value, Object, Int, Bool as Truth}
use Rattle.bson_value.specs.declared.value.Value.TheVariants.{outs-Object, outs-Int}
use Rattle.bson_value.specs.Place.{an_array, an_object, shape, child}
use Rattle.bson_value.proofs.Digits.{index_of-digits}
use Rattle.doc_path.specs.declared.parts.Part.{Part}
use Rattle.doc_path.specs.declared.parts.Part.TheVariants.{Name as name, Index as index}
use Rattle.doc_path.specs.Touch.{key_of, limit}
use Rattle.entry_model.specs.Edits.{Step, Sets, Unsets, Resizes, Edit, In, onto, picked, mapped, gathered, same_part, group, under, heads, first_in, once}
use Rattle.entry_model.specs.Written.{Fields, a_name, l_name, d_name, u_name, i_name, s_of, u_of, section, gone, set, new, document_diff, length_in, set_at, part_in, parts, below, at_part, array_diff, is_index, in_array, is_array, diff}
use Rattle.entry_model.specs.Reads.{Read, then_also, all_read, as_object, document_field, unset_of, set_of, array_field, has_a, diff_read}
use Rattle.entry_model.specs.Laws.{AllStand}
use Rattle.entry_model.proofs.Lists.{one_part, picked_in, once_in, rising_in}
use Rattle.entry_model.proofs.Standing.{Low, ArrayEdit, in_object, in_list, list_is_array, somewhere, there, group_stands}

-- ---- the order in which a diff spells edits

abbrev pub below_order : (Part → List Edit) → Part → List Edit → List Edit
below_order go r [] = []
below_order go r (e ∷ es) = mapped (under r) (go r)

abbrev pub document_order : (Part → List Edit) → List Edit → List Edit
document_order go es = mapped unset_of (gone es) ++ (mapped (set_of false) (set es) ++ (mapped (set_of true) (new es) ++ gathered (λ r. mapped (under r) (go r)) (heads es)))

abbrev pub length_edit : List Part → Step → Option Edit
length_edit [] (Resizes n) = Some ([], Resizes n)
length_edit _ _ = None

abbrev pub edit_at : Part → List Part → Step → Option Edit
edit_at r [] (Sets p a fresh) = if same_part p r then Some ([], Sets r a false) else None
edit_at r _ _ = None

abbrev pub part_order : (Part → List Edit) → List Edit → Part → List Edit
part_order go es r = picked (λ e. edit_at r e.0 e.1) es ++ below_order go r (group r es)

abbrev pub array_order : (Part → List Edit) → List Edit → List Edit
array_order go es = picked (λ e. length_edit e.0 e.1) es ++ gathered (part_order go es) (parts es)

abbrev pub order : ℕ → List Edit → List Edit
order zero es = []
order (suc n) es = if is_array es then array_order (λ r. order n (group r es)) es else document_order (λ r. order n (group r es)) es

-- ---- reading one list after another

assoc : (a b c : Read) → then_also a (then_also b c) ≡ then_also (then_also a b) c
assoc None b c = refl
assoc (Some x) None c = refl
assoc (Some x) (Some y) None = refl
assoc (Some x) (Some y) (Some z) = ap (λ (l : List Edit). Some l) (sym (append_assoc x y z))

first_empty : (a : Read) → then_also (Some []) a ≡ a
first_empty None = refl
first_empty (Some x) = refl

split : {A : Type 0} (f : A → Read) (xs ys : List A) → all_read f (xs ++ ys) ≡ then_also (all_read f xs) (all_read f ys)
split f [] ys = sym (first_empty (all_read f ys))
split f (x ∷ xs) ys = ap (then_also (f x)) (split f xs ys) ∙ assoc (f x) (all_read f xs) (all_read f ys)

pub both_read : {A : Type 0} (f : A → Read) (xs ys : List A) (as' bs : List Edit) → all_read f xs ≡ Some as' → all_read f ys ≡ Some bs → all_read f (xs ++ ys) ≡ Some (as' ++ bs)
both_read f xs ys as' bs a b = split f xs ys ∙ (ap (λ (r : Read). then_also r (all_read f ys)) a ∙ ap (then_also (Some as')) b)

pub next_read : {A : Type 0} (f : A → Read) (x : A) (xs : List A) (as' bs : List Edit) → f x ≡ Some as' → all_read f xs ≡ Some bs → all_read f (x ∷ xs) ≡ Some (as' ++ bs)
next_read f x xs as' bs a b = ap (λ (r : Read). then_also r (all_read f xs)) a ∙ ap (then_also (Some as')) b

pub append_none : (xs : List Edit) → xs ++ [] ≡ xs
append_none [] = refl
append_none (x ∷ xs) = ap (λ (l : List Edit). x ∷ l) (append_none xs)

pub one_read : {A : Type 0} (f : A → Read) (x : A) (as' : List Edit) → f x ≡ Some as' → all_read f (x ∷ []) ≡ Some as'
one_read f x as' a = next_read f x [] as' [] a refl ∙ ap (λ (l : List Edit). Some l) (append_none as')

-- ---- a document

pub object_read : (go : Fields → Read) (fs : Fields) → as_object go (Object fs) ≡ go fs
object_read go fs = rw (outs-Object fs) refl

section_read : (f : List ℕ × Value → Read) (n : List ℕ) (g : List ℕ × Value → Edit) → ((fs : Fields) → f (n, Object fs) ≡ Some (mapped g fs)) → (fs : Fields) → all_read f (section n fs) ≡ Some (mapped g fs)
section_read f n g h [] = refl
section_read f n g h (x ∷ xs) = one_read f (n, Object (x ∷ xs)) (mapped g (x ∷ xs)) (h (x ∷ xs))

module _ (rd : Fields → Read) where
  abbrev in_doc : List ℕ × Value → Read
  in_doc f = document_field rd f.0 f.1

  part_read : (r : Part) (fs : Fields) (es : List Edit) → is_index r ≡ false → rd fs ≡ Some es → in_doc (s_of r, Object fs) ≡ Some (mapped (under r) es)
  part_read (name k) fs es i e = ap (option_map (mapped (under (name k)))) (object_read rd fs ∙ e)
  part_read (index n) fs es i e = cc

  parts_read : (go : Part → Fields) (og : Part → List Edit) (rs : List Part) → ((r : Part) → In r rs → is_index r ≡ false) → ((r : Part) → rd (go r) ≡ Some (og r)) →
      all_read in_doc (mapped (λ r. (s_of r, Object (go r))) rs) ≡ Some (gathered (λ r. mapped (under r) (og r)) rs)
  parts_read go og [] i h = refl
  parts_read go og (r ∷ rs) i h =
      next_read in_doc (s_of r, Object (go r)) (mapped (λ q. (s_of q, Object (go q))) rs) (mapped (under r) (og r)) (gathered (λ q. mapped (under q) (og q)) rs) (part_read r (go r) (og r) (i r (inl refl)) (h r)) (parts_read go og rs (λ q j. i q (inr j)) h)

  document_read : (go : Part → Fields) (og : Part → List Edit) (es : List Edit) → ((r : Part) → In r (heads es) → is_index r ≡ false) → ((r : Part) → rd (go r) ≡ Some (og r)) →
      all_read in_doc (document_diff go es) ≡ Some (document_order og es)
  document_read go og es i h =
      let ss : Fields = mapped (λ r. (s_of r, Object (go r))) (heads es) in
      let so : List Edit = gathered (λ r. mapped (under r) (og r)) (heads es) in
      let is : Fields = section i_name (new es) in
      let io : List Edit = mapped (set_of true) (new es) in
      let us : Fields = section u_name (set es) in
      let uo : List Edit = mapped (set_of false) (set es) in
      let ds : Fields = section d_name (gone es) in
      let fo : List Edit = mapped unset_of (gone es) in
      both_read in_doc ds (us ++ (is ++ ss)) fo (uo ++ (io ++ so)) (section_read in_doc d_name unset_of (λ fs. object_read (λ hs. Some (mapped unset_of hs)) fs) (gone es))
      (both_read in_doc us (is ++ ss) uo (io ++ so) (section_read in_doc u_name (set_of false) (λ fs. object_read (λ hs. Some (mapped (set_of false) hs)) fs) (set es))
      (both_read in_doc is ss io so (section_read in_doc i_name (set_of true) (λ fs. object_read (λ hs. Some (mapped (set_of true) hs)) fs) (new es))
      (parts_read go og (heads es) i h)))

-- it has no field `a`
later : (xs ys : Fields) → lookup a_name xs ≡ None → lookup a_name ys ≡ None → lookup a_name (xs ++ ys) ≡ None
later [] ys a b = b
later (x ∷ xs) ys a b = grind (arith, later xs ys)

no_section : (fs : Fields) (c : ℕ) → (c == 97) ≡ false → lookup a_name (section (c ∷ []) fs) ≡ None
no_section [] c e = refl
no_section (f ∷ fs) c e = rw e refl

no_parts : (go : Part → Fields) (rs : List Part) → lookup a_name (mapped (λ r. (s_of r, Object (go r))) rs) ≡ None
no_parts go [] = refl
no_parts go (r ∷ rs) = no_parts go rs

pub no_a : (go : Part → Fields) (es : List Edit) → lookup a_name (document_diff go es) ≡ None
no_a go es = later (section d_name (gone es)) _ (no_section (gone es) 100 refl) (later (section u_name (set es)) _ (no_section (set es) 117 refl) (later (section i_name (new es)) _ (no_section (new es) 105 refl) (no_parts go (heads es))))

-- ---- an array

module _ (rd : Fields → Read) where
  abbrev in_list' : List ℕ × Value → Read
  in_list' f = array_field rd f.0 f.1

  length_step : (ps : List Part) (s : Step) (fs : Fields) (es : List Edit) → all_read in_list' fs ≡ Some es → all_read in_list' (onto (length_in ps s) fs) ≡ Some (onto (length_edit ps s) es)
  length_step (p ∷ ps) s fs es h = h
  length_step [] (Sets p a fresh) fs es h = h
  length_step [] (Unsets p) fs es h = h
  length_step [] (Resizes n) fs es h = next_read in_list' (l_name, Int (pos n)) fs (([], Resizes n) ∷ []) es (rw (outs-Int (pos n)) refl) h

  lengths_read : (es : List Edit) → all_read in_list' (picked (λ e. length_in e.0 e.1) es) ≡ Some (picked (λ e. length_edit e.0 e.1) es)
  lengths_read [] = refl
  lengths_read (e ∷ es) = length_step e.0 e.1 (picked (λ e. length_in e.0 e.1) es) (picked (λ e. length_edit e.0 e.1) es) (lengths_read es)

  index_read : (n : ℕ) (a : Value) → n < limit → array_field rd (u_of (index n)) a ≡ Some (([], Sets (index n) a false) ∷ [])
  index_read n a l = let s : nat_lt n (2 ^ 32) ≡ true = grind (arith, common_steps) in rw (index_of-digits n, s) refl

  set_step : (m : ℕ) (ps : List Part) (s : Step) (fs : Fields) (es : List Edit) → m < limit → all_read in_list' fs ≡ Some es → all_read in_list' (onto (set_at (index m) ps s) fs) ≡ Some (onto (edit_at (index m) ps s) es)
  set_step m (p ∷ ps) s fs es l h = h
  set_step m [] (Unsets p) fs es l h = h
  set_step m [] (Resizes n) fs es l h = h
  set_step m [] (Sets p a fresh) fs es l h = by (same_part p (index m)) refl
    where
      by : (b : Bool) → same_part p (index m) ≡ b → all_read in_list' (onto (if b then Some (u_of p, a) else None) fs) ≡ Some (onto (if b then Some ([], Sets (index m) a false) else None) es)
      by true e = next_read in_list' (u_of p, a) fs (([], Sets (index m) a false) ∷ []) es (ap (λ (q : Part). array_field rd (u_of q) a) (one_part p (index m) e) ∙ index_read m a l) h
      by false e = h

  sets_read : (m : ℕ) (es : List Edit) → m < limit → all_read in_list' (picked (λ e. set_at (index m) e.0 e.1) es) ≡ Some (picked (λ e. edit_at (index m) e.0 e.1) es)
  sets_read m [] l = refl
  sets_read m (e ∷ es) l = set_step m e.0 e.1 (picked (λ e. set_at (index m) e.0 e.1) es) (picked (λ e. edit_at (index m) e.0 e.1) es) l (sets_read m es l)

  below_index : (n : ℕ) (fs : Fields) (es : List Edit) → n < limit → rd fs ≡ Some es → array_field rd (s_of (index n)) (Object fs) ≡ Some (mapped (under (index n)) es)
  below_index n fs es l e =
      let s : nat_lt n (2 ^ 32) ≡ true = grind (arith, common_steps) in
      rw (index_of-digits n, s) (ap (option_map (mapped (under (index n)))) (object_read rd fs ∙ e))

  below_read : (go : Part → Fields) (og : Part → List Edit) (n : ℕ) (gs : List Edit) → n < limit → rd (go (index n)) ≡ Some (og (index n)) →
      all_read in_list' (below go (index n) gs) ≡ Some (below_order og (index n) gs)
  below_read go og n [] l e = refl
  below_read go og n (g ∷ gs) l e = one_read in_list' (s_of (index n), Object (go (index n))) (mapped (under (index n)) (og (index n))) (below_index n (go (index n)) (og (index n)) l e)

  at_part_read : (go : Part → Fields) (og : Part → List Edit) (es : List Edit) (r : Part) → Low r → rd (go r) ≡ Some (og r) → all_read in_list' (at_part go es r) ≡ Some (part_order og es r)
  at_part_read go og es (name k) l e = absurd l
  at_part_read go og es (index n) l e =
      both_read in_list' (picked (λ e. set_at (index n) e.0 e.1) es) (below go (index n) (group (index n) es)) (picked (λ e. edit_at (index n) e.0 e.1) es) (below_order og (index n) (group (index n) es))
      (sets_read n es l) (below_read go og n (group (index n) es) l e)

  at_parts_read : (go : Part → Fields) (og : Part → List Edit) (es : List Edit) (rs : List Part) → ((r : Part) → In r rs → Low r) → ((r : Part) → rd (go r) ≡ Some (og r)) →
      all_read in_list' (gathered (at_part go es) rs) ≡ Some (gathered (part_order og es) rs)
  at_parts_read go og es [] l h = refl
  at_parts_read go og es (r ∷ rs) l h =
      both_read in_list' (at_part go es r) (gathered (at_part go es) rs) (part_order og es r) (gathered (part_order og es) rs) (at_part_read go og es r (l r (inl refl)) (h r)) (at_parts_read go og es rs (λ q j. l q (inr j)) h)

  array_read : (go : Part → Fields) (og : Part → List Edit) (es : List Edit) → ((r : Part) → In r (parts es) → Low r) → ((r : Part) → rd (go r) ≡ Some (og r)) →
      all_read in_list' (array_diff go es) ≡ Some (array_order og es)
  array_read go og es l h =
      next_read in_list' (a_name, Truth true) (picked (λ e. length_in e.0 e.1) es ++ gathered (at_part go es) (parts es)) [] (array_order og es) refl
      (both_read in_list' (picked (λ e. length_in e.0 e.1) es) (gathered (at_part go es) (parts es)) (picked (λ e. length_edit e.0 e.1) es) (gathered (part_order og es) (parts es)) (lengths_read es) (at_parts_read go og es (parts es) l h))

-- ---- the parts of a level

head_named : (ps : List Part) (s : Step) (r : Part) → in_array ps s ≡ false → first_in ps ≡ Some r → is_index r ≡ false
head_named [] s r e f = cc
head_named (p ∷ ps) s r e f = let g : p ≡ r = cc in subst (λ (q : Part). is_index q ≡ false) g e

part_low : (ps : List Part) (s : Step) (r : Part) → ArrayEdit ps s → part_in ps s ≡ Some r → Low r
part_low (p ∷ ps) s r e f = let g : p ≡ r = cc in subst Low g e
part_low [] (Sets p a fresh) r e f = let g : p ≡ r = cc in subst Low g e
part_low [] (Unsets p) r e f = cc
part_low [] (Resizes n) r e f = cc

module _ (n : ℕ) (v : Value) (es : List Edit) (a : AllStand n v es) where
  pub heads_named : shape v ≡ an_object → (r : Part) → In r (heads es) → is_index r ≡ false
  heads_named o r h =
      let x = picked_in (λ (e : Edit). first_in e.0) es r (once_in (picked (λ e. first_in e.0) es) r h) in
      head_named x.0.0 x.0.1 r (in_object x.0.0 x.0.1 v o (a x.0 x.1).done) x.2

  pub parts_low : shape v ≡ an_array → (r : Part) → In r (parts es) → Low r
  parts_low o r h =
      let x = picked_in (λ (e : Edit). part_in e.0 e.1) es r (once_in (picked (λ e. part_in e.0 e.1) es) r (rising_in (once (picked (λ e. part_in e.0 e.1) es)) r h)) in
      part_low x.0.0 x.0.1 r (in_list x.0.0 x.0.1 v o (a x.0 x.1).done) x.2

-- ---- a level, and all

abbrev Level : (Fields → Read) → (Part → Fields) → (Part → List Edit) → List Edit → Bool → Type 0
Level rd go og es b =
    (if has_a (if b then array_diff go es else document_diff go es) then all_read (λ f. array_field rd f.0 f.1) (if b then array_diff go es else document_diff go es) else all_read (λ f. document_field rd f.0 f.1) (if b then array_diff go es else document_diff go es))
    ≡ Some (if b then array_order og es else document_order og es)

in_object_level : (rd : Fields → Read) (go : Part → Fields) (og : Part → List Edit) (es : List Edit) (b : Bool) → b ≡ false → ((r : Part) → In r (heads es) → is_index r ≡ false) → ((r : Part) → rd (go r) ≡ Some (og r)) → Level rd go og es b
in_object_level rd go og es b e i h = rw (e, no_a go es) (document_read rd go og es i h)

in_array_level : (rd : Fields → Read) (go : Part → Fields) (og : Part → List Edit) (es : List Edit) (b : Bool) → b ≡ true → ((r : Part) → In r (parts es) → Low r) → ((r : Part) → rd (go r) ≡ Some (og r)) → Level rd go og es b
in_array_level rd go og es b e l h = rw e (array_read rd go og es l h)

level : (rd : Fields → Read) (go : Part → Fields) (og : Part → List Edit) (n : ℕ) (v : Value) (es : List Edit) → AllStand n v es → ((r : Part) → rd (go r) ≡ Some (og r)) → Level rd go og es (is_array es)
level rd go og n v [] a h = refl
level rd go og n v (e ∷ es) a h = by (somewhere e.0 e.1 v (a e (inl refl)).done)
  where
    by : (shape v ≡ an_object) ⊎ (shape v ≡ an_array) → Level rd go og (e ∷ es) (is_array (e ∷ es))
    by (inl o) = in_object_level rd go og (e ∷ es) (in_array e.0 e.1) (in_object e.0 e.1 v o (a e (inl refl)).done) (heads_named n v (e ∷ es) a o) h
    by (inr o) = in_array_level rd go og (e ∷ es) (in_array e.0 e.1) (list_is_array e.0 e.1 (in_list e.0 e.1 v o (a e (inl refl)).done)) (parts_low n v (e ∷ es) a o) h

pub read_order : (n : ℕ) (v : Value) (es : List Edit) → AllStand n v es → diff_read (suc n) (diff n es) ≡ Some (order n es)
read_order zero v es a = refl
read_order (suc n) v es a =
    level (diff_read (suc n)) (λ r. diff n (group r es)) (λ r. order n (group r es)) (suc n) v es a
    (λ r. read_order n (there (child v (key_of r))) (group r es) (group_stands n v es r a))
