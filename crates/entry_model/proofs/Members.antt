-- The order in which a diff spells edits has the same edits.
use Rattle.std.proofs.Common.{◌≡◌, ℕ, suc, zero, List, [], ◌∷◌, ◌++◌, Bool, true, false, refl, sym, ap, ◌∙◌, subst, arith, inl, inr}
use Rattle.std.specs.Prelude.{◌⊎◌, if◌then◌else◌, Option, Some, None}
use Rattle.bson_value.specs.declared.value.Value.{Value}
use Rattle.bson_value.specs.declared.value.Value.TheVariants.{Bool as Truth}
use Rattle.bson_value.specs.Place.{an_array, an_object, shape, child}
use Rattle.doc_path.specs.declared.parts.Part.{Part}
use Rattle.doc_path.specs.declared.parts.Part.TheVariants.{Name as name, Index as index}
use Rattle.doc_path.specs.Touch.{key_of}
use Rattle.entry_model.specs.Edits.{Step, Sets, Unsets, Resizes, Edit, In, picked, mapped, gathered, same_part, behind, group, under, heads, first_in, once}
use Rattle.entry_model.specs.Written.{gone_in, set_in, new_in, gone, set, new, part_in, parts, in_array, is_array}
use Rattle.entry_model.specs.Reads.{unset_of, set_of}
use Rattle.entry_model.specs.Laws.{NewIsNamed, AllStand, SameEdits}
use Rattle.entry_model.proofs.Lists.{one_part, own_part, in_left, in_right, in_either, picked_in, picked_has, mapped_in, mapped_has, gathered_in, gathered_has, once_has, rising_has}
use Rattle.entry_model.proofs.Standing.{Low, ArrayEdit, in_object, in_list, list_is_array, somewhere, there, group_in, group_stands}
use Rattle.entry_model.proofs.Ordered.{below_order, document_order, length_edit, edit_at, part_order, array_order, order}

-- ---- what is spelled was there

gone_back : (ps : List Part) (s : Step) (f : List ℕ × Value) → gone_in ps s ≡ Some f → (ps, s) ≡ unset_of f
gone_back [] (Unsets (name k)) f e = let h : (k, Truth false) ≡ f = cc in ap (λ (g : List ℕ × Value). unset_of g) h
gone_back [] (Unsets (index n)) f e = cc
gone_back [] (Sets p a fresh) f e = cc
gone_back [] (Resizes n) f e = cc
gone_back (p ∷ ps) s f e = cc

set_back : (ps : List Part) (s : Step) (f : List ℕ × Value) → set_in ps s ≡ Some f → (ps, s) ≡ set_of false f
set_back [] (Sets (name k) a false) f e = let h : (k, a) ≡ f = cc in ap (λ (g : List ℕ × Value). set_of false g) h
set_back [] (Sets (name k) a true) f e = cc
set_back [] (Sets (index n) a fresh) f e = cc
set_back [] (Unsets p) f e = cc
set_back [] (Resizes n) f e = cc
set_back (p ∷ ps) s f e = cc

new_back : (ps : List Part) (s : Step) (f : List ℕ × Value) → new_in ps s ≡ Some f → (ps, s) ≡ set_of true f
new_back [] (Sets (name k) a true) f e = let h : (k, a) ≡ f = cc in ap (λ (g : List ℕ × Value). set_of true g) h
new_back [] (Sets (name k) a false) f e = cc
new_back [] (Sets (index n) a fresh) f e = cc
new_back [] (Unsets p) f e = cc
new_back [] (Resizes n) f e = cc
new_back (p ∷ ps) s f e = cc

length_back : (ps : List Part) (s : Step) (d : Edit) → length_edit ps s ≡ Some d → (ps, s) ≡ d
length_back [] (Resizes n) d e = cc
length_back [] (Sets p a fresh) d e = cc
length_back [] (Unsets p) d e = cc
length_back (p ∷ ps) s d e = cc

-- a Set in an array is of no new field
old_index : (p : Part) (a : Value) (fresh : Bool) → Low p → NewIsNamed (Sets p a fresh) → fresh ≡ false
old_index (name k) a fresh l n = absurd l
old_index (index m) a fresh l n = n

edit_back : (r : Part) (ps : List Part) (s : Step) (d : Edit) → ArrayEdit ps s → NewIsNamed s → edit_at r ps s ≡ Some d → (ps, s) ≡ d
edit_back r [] (Sets p a fresh) d l n e = by (same_part p r) refl e
  where
    by : (b : Bool) → same_part p r ≡ b → (if b then Some ([], Sets r a false) else None) ≡ Some d → ([], Sets p a fresh) ≡ d
    by true f g =
        let h : ([], Sets r a false) ≡ d = cc in
        ap (λ (q : Part). ([], Sets q a fresh)) (one_part p r f) ∙ (ap (λ (b : Bool). ([], Sets r a b)) (old_index p a fresh l n) ∙ h)
    by false f g = cc
edit_back r [] (Unsets p) d l n e = cc
edit_back r [] (Resizes m) d l n e = cc
edit_back r (p ∷ ps) s d l n e = cc

module _ (es : List Edit) where
  fields_from : (pick : List Part → Step → Option (List ℕ × Value)) (g : List ℕ × Value → Edit) → ((ps : List Part) (s : Step) (f : List ℕ × Value) → pick ps s ≡ Some f → (ps, s) ≡ g f) →
      (d : Edit) → In d (mapped g (picked (λ e. pick e.0 e.1) es)) → In d es
  fields_from pick g back d h =
      let x = mapped_in g (picked (λ e. pick e.0 e.1) es) d h in
      let y = picked_in (λ (e : Edit). pick e.0 e.1) es x.0 x.1 in
      subst (λ (z : Edit). In z es) (back y.0.0 y.0.1 x.0 y.2 ∙ sym x.2) y.1

  under_from : (r : Part) (ds : List Edit) → ((d : Edit) → In d ds → In d (group r es)) → (d : Edit) → In d (mapped (under r) ds) → In d es
  under_from r ds ih d h =
      let x = mapped_in (under r) ds d h in
      subst (λ (z : Edit). In z es) (sym x.2) (group_in r es x.0 (ih x.0 x.1))

  document_from : (og : Part → List Edit) → ((r : Part) (d : Edit) → In d (og r) → In d (group r es)) → (d : Edit) → In d (document_order og es) → In d es
  document_from og ih d h = one (in_either (mapped unset_of (gone es)) _ d h)
    where
      four : In d (mapped (set_of true) (new es)) ⊎ In d (gathered (λ r. mapped (under r) (og r)) (heads es)) → In d es
      four (inl g) = fields_from new_in (set_of true) new_back d g
      four (inr g) = (let x = gathered_in (λ r. mapped (under r) (og r)) (heads es) d g in under_from x.0 (og x.0) (ih x.0) d x.2)

      two : In d (mapped (set_of false) (set es)) ⊎ In d (mapped (set_of true) (new es) ++ gathered (λ r. mapped (under r) (og r)) (heads es)) → In d es
      two (inl g) = fields_from set_in (set_of false) set_back d g
      two (inr g) = four (in_either (mapped (set_of true) (new es)) (gathered (λ r. mapped (under r) (og r)) (heads es)) d g)

      one : In d (mapped unset_of (gone es)) ⊎ In d (mapped (set_of false) (set es) ++ (mapped (set_of true) (new es) ++ gathered (λ r. mapped (under r) (og r)) (heads es))) → In d es
      one (inl g) = fields_from gone_in unset_of gone_back d g
      one (inr g) = two (in_either (mapped (set_of false) (set es)) (mapped (set_of true) (new es) ++ gathered (λ r. mapped (under r) (og r)) (heads es)) d g)

  below_from : (og : Part → List Edit) (r : Part) (gs : List Edit) → ((d : Edit) → In d (og r) → In d (group r es)) → (d : Edit) → In d (below_order og r gs) → In d es
  below_from og r [] ih d h = absurd h
  below_from og r (g ∷ gs) ih d h = under_from r (og r) ih d h

  array_from : (og : Part → List Edit) → ((e : Edit) → In e es → ArrayEdit e.0 e.1 × NewIsNamed e.1) → ((r : Part) (d : Edit) → In d (og r) → In d (group r es)) → (d : Edit) → In d (array_order og es) → In d es
  array_from og l ih d h = one (in_either (picked (λ e. length_edit e.0 e.1) es) (gathered (part_order og es) (parts es)) d h)
    where
      two : (r : Part) → In d (picked (λ e. edit_at r e.0 e.1) es) ⊎ In d (below_order og r (group r es)) → In d es
      two r (inl g) =
          (let y = picked_in (λ (e : Edit). edit_at r e.0 e.1) es d g in
          let w = l y.0 y.1 in
          subst (λ (z : Edit). In z es) (edit_back r y.0.0 y.0.1 d w.0 w.1 y.2) y.1)
      two r (inr g) = below_from og r (group r es) (ih r) d g

      one : In d (picked (λ e. length_edit e.0 e.1) es) ⊎ In d (gathered (part_order og es) (parts es)) → In d es
      one (inl g) = (let y = picked_in (λ (e : Edit). length_edit e.0 e.1) es d g in subst (λ (z : Edit). In z es) (length_back y.0.0 y.0.1 d y.2) y.1)
      one (inr g) = (let x = gathered_in (part_order og es) (parts es) d g in two x.0 (in_either (picked (λ e. edit_at x.0 e.0 e.1) es) (below_order og x.0 (group x.0 es)) d x.2))

-- ---- what was there is spelled

pub group_has : (r : Part) (ps : List Part) (s : Step) (es : List Edit) → In (r ∷ ps, s) es → In (ps, s) (group r es)
group_has r ps s es h = picked_has (behind r) es (r ∷ ps, s) (ps, s) h (rw (own_part r) refl)

module _ (es : List Edit) where
  fields_to : (pick : List Part → Step → Option (List ℕ × Value)) (g : List ℕ × Value → Edit) (e : Edit) (f : List ℕ × Value) → In e es → pick e.0 e.1 ≡ Some f → In (g f) (mapped g (picked (λ e. pick e.0 e.1) es))
  fields_to pick g e f h p = mapped_has g (picked (λ e. pick e.0 e.1) es) f (picked_has (λ (e : Edit). pick e.0 e.1) es e f h p)

  head_has : (r : Part) (ps : List Part) (s : Step) → In (r ∷ ps, s) es → In r (heads es)
  head_has r ps s h = once_has (picked (λ e. first_in e.0) es) r (picked_has (λ (e : Edit). first_in e.0) es (r ∷ ps, s) r h refl)

  part_has : (ps : List Part) (s : Step) (r : Part) → In (ps, s) es → part_in ps s ≡ Some r → In r (parts es)
  part_has ps s r h e = rising_has (once (picked (λ e. part_in e.0 e.1) es)) r (once_has (picked (λ e. part_in e.0 e.1) es) r (picked_has (λ (e : Edit). part_in e.0 e.1) es (ps, s) r h e))

  module _ (og : Part → List Edit) (ih : (r : Part) (d : Edit) → In d (group r es) → In d (og r)) where
    abbrev do' : List Edit
    do' = mapped unset_of (gone es)

    abbrev uo : List Edit
    uo = mapped (set_of false) (set es)

    abbrev io : List Edit
    io = mapped (set_of true) (new es)

    abbrev so : List Edit
    so = gathered (λ r. mapped (under r) (og r)) (heads es)

    document_to : (ps : List Part) (s : Step) → in_array ps s ≡ false → In (ps, s) es → In (ps, s) (document_order og es)
    document_to (r ∷ ps) s a h =
        in_right do' (uo ++ (io ++ so)) (r ∷ ps, s) (in_right uo (io ++ so) (r ∷ ps, s) (in_right io so (r ∷ ps, s)
        (gathered_has (λ r. mapped (under r) (og r)) (heads es) r (r ∷ ps, s) (head_has r ps s h) (mapped_has (under r) (og r) (ps, s) (ih r (ps, s) (group_has r ps s es h))))))
    document_to [] (Unsets (name k)) a h = in_left do' (uo ++ (io ++ so)) ([], Unsets (name k)) (fields_to gone_in unset_of ([], Unsets (name k)) (k, Truth false) h refl)
    document_to [] (Sets (name k) v false) a h = in_right do' (uo ++ (io ++ so)) ([], Sets (name k) v false) (in_left uo (io ++ so) ([], Sets (name k) v false) (fields_to set_in (set_of false) ([], Sets (name k) v false) (k, v) h refl))
    document_to [] (Sets (name k) v true) a h = in_right do' (uo ++ (io ++ so)) ([], Sets (name k) v true) (in_right uo (io ++ so) ([], Sets (name k) v true) (in_left io so ([], Sets (name k) v true) (fields_to new_in (set_of true) ([], Sets (name k) v true) (k, v) h refl)))
    document_to [] (Unsets (index n)) a h = cc
    document_to [] (Sets (index n) v fresh) a h = cc
    document_to [] (Resizes n) a h = cc

    at_part_to : (r : Part) (e : Edit) → In r (parts es) → In e (part_order og es r) → In e (array_order og es)
    at_part_to r e i h = in_right (picked (λ e. length_edit e.0 e.1) es) (gathered (part_order og es) (parts es)) e (gathered_has (part_order og es) (parts es) r e i h)

    below_to : (r : Part) (gs : List Edit) (ps : List Part) (s : Step) → In (ps, s) gs → In (ps, s) (og r) → In (r ∷ ps, s) (below_order og r gs)
    below_to r [] ps s g h = absurd g
    below_to r (x ∷ gs) ps s g h = mapped_has (under r) (og r) (ps, s) h

    array_to : (ps : List Part) (s : Step) → ArrayEdit ps s → NewIsNamed s → In (ps, s) es → In (ps, s) (array_order og es)
    array_to (r ∷ ps) s l n h =
        let g = group_has r ps s es h in
        at_part_to r (r ∷ ps, s) (part_has (r ∷ ps) s r h refl) (in_right (picked (λ e. edit_at r e.0 e.1) es) (below_order og r (group r es)) (r ∷ ps, s) (below_to r (group r es) ps s g (ih r (ps, s) g)))
    array_to [] (Sets p v fresh) l n h =
        let b : fresh ≡ false = old_index p v fresh l n in
        at_part_to p ([], Sets p v fresh) (part_has [] (Sets p v fresh) p h refl) (in_left (picked (λ e. edit_at p e.0 e.1) es) (below_order og p (group p es)) ([], Sets p v fresh)
        (picked_has (λ (e : Edit). edit_at p e.0 e.1) es ([], Sets p v fresh) ([], Sets p v fresh) h (rw (own_part p, b) refl)))
    array_to [] (Unsets p) l n h = absurd l
    array_to [] (Resizes m) l n h = in_left (picked (λ e. length_edit e.0 e.1) es) (gathered (part_order og es) (parts es)) ([], Resizes m) (picked_has (λ (e : Edit). length_edit e.0 e.1) es ([], Resizes m) ([], Resizes m) h refl)

-- ---- a level, and all

abbrev Level : (Part → List Edit) → List Edit → Bool → Type 0
Level og es b = SameEdits es (if b then array_order og es else document_order og es)

level : (og : Part → List Edit) (n : ℕ) (v : Value) (es : List Edit) → AllStand n v es → ((r : Part) → SameEdits (group r es) (og r)) → Level og es (is_array es)
level og n v [] a ih = record { to = λ e h. absurd h; from = λ e h. absurd h }
level og n v (x ∷ xs) a ih = by (somewhere x.0 x.1 v (a x (inl refl)).done)
  where
    by : (shape v ≡ an_object) ⊎ (shape v ≡ an_array) → Level og (x ∷ xs) (in_array x.0 x.1)
    by (inl o) = rw (in_object x.0 x.1 v o (a x (inl refl)).done) (record {
      to = λ e h. document_to (x ∷ xs) og (λ r. (ih r).to) e.0 e.1 (in_object e.0 e.1 v o (a e h).done) h;
      from = document_from (x ∷ xs) og (λ r. (ih r).from);
    })
    by (inr o) = rw (list_is_array x.0 x.1 (in_list x.0 x.1 v o (a x (inl refl)).done)) (record {
      to = λ e h. array_to (x ∷ xs) og (λ r. (ih r).to) e.0 e.1 (in_list e.0 e.1 v o (a e h).done) (a e h).named h;
      from = array_from (x ∷ xs) og (λ e h. (in_list e.0 e.1 v o (a e h).done, (a e h).named)) (λ r. (ih r).from);
    })

pub same_edits : (n : ℕ) (v : Value) (es : List Edit) → AllStand n v es → SameEdits es (order n es)
same_edits zero v es a = record { to = λ e h. (let l = (a e h).deep in absurd (omega arith)); from = λ e h. absurd h }
same_edits (suc n) v es a =
    level (λ r. order n (group r es)) (suc n) v es a
    (λ r. same_edits n (there (child v (key_of r))) (group r es) (group_stands n v es r a))
