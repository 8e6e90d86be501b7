-- The bytes of a diff, level by level.
use Rattle.std.proofs.Common.{◌≡◌, ℕ, ◌+◌, ◌<◌, ◌≤◌, List, [], ◌∷◌, ◌++◌, length, take, get_or, Bool, true, false, refl, sym, ap, subst, ◌∙◌, arith, append_assoc}
use Rattle.std.specs.Prelude.{pos, Option, Some, None, if◌then◌else◌, ◌==◌}
use Rattle.std.proofs.lemmas.Grind.{common_steps}
use Rattle.std.proofs.lemmas.List.{take_all, append-nil}
use Rattle.bson_value.specs.declared.value.Value.{Value, Object, Int, Bool as Truth}
use Rattle.bson_value.specs.Spelling.{element, spelling, elements_of}
use Rattle.doc_path.specs.declared.parts.Part.{Part}
use Rattle.doc_path.specs.declared.parts.Part.TheVariants.{Name as name, Index as index}
use Rattle.doc_path.specs.declared.touches.Touch.{Touch}
use Rattle.entry_model.specs.Edits.{Step, Sets, Unsets, Resizes, Edit, onto, picked, mapped, gathered, same_part, behind, group, heads, is_before, inserted, rising}
use Rattle.entry_model.specs.Written.{Fields, section, d_name, u_name, i_name, a_name, v_name, diff_name, s_of, gone_in, set_in, new_in, length_in, set_at, below, at_part, parts, document_diff, array_diff, diff, spelled_v2}
use Rattle.entry_model.specs.Touches.{edit_of}
use Rattle.entry_model.proofs.Lists.{own_part}
use Rattle.entry_writer.specs.declared.level.Kind.TheVariants.{Removed, Changed, Fresh, Length}
use Rattle.entry_writer.specs.declared.parts.PartEdits.{PartEdits}
use Rattle.entry_writer.specs.Elements.{document_element}
use Rattle.entry_writer.specs.declared.edits.Edit.{Edit as Held}
use Rattle.entry_writer.specs.Edits.{edits_in, part_by}
use Rattle.entry_writer.specs.Groups.{Group, group_in, groups_in, is_part, members, parts_by, grouped, field_below, fields_below, fields_at}
use Rattle.entry_writer.specs.Order.{put_rising, risen, parts_of, IsOnce}
use Rattle.entry_writer.specs.Levels.{field_in, field_of, fields_of}
use Rattle.entry_writer.proofs.Bytes.{field_is, both_put, as_fields}
use Rattle.entry_writer.proofs.Groups.{mapped_more, mapped-append, is_once}

-- ---- the fields of a kind are those of the definition

removed_is : (e : Edit) → field_of Removed e ≡ gone_in e.0 e.1
removed_is e = by e.0 e.1
  where
    by : (ps : List Part) (s : Step) → field_in Removed ps s ≡ gone_in ps s
    by [] (Unsets (name k)) = refl
    by [] (Unsets (index n)) = refl
    by [] (Sets p a fresh) = refl
    by [] (Resizes n) = refl
    by (p ∷ ps) s = refl

changed_is : (e : Edit) → field_of Changed e ≡ set_in e.0 e.1
changed_is e = by e.0 e.1
  where
    by : (ps : List Part) (s : Step) → field_in Changed ps s ≡ set_in ps s
    by [] (Sets (name k) a true) = refl
    by [] (Sets (name k) a false) = refl
    by [] (Sets (index n) a true) = refl
    by [] (Sets (index n) a false) = refl
    by [] (Unsets p) = refl
    by [] (Resizes n) = refl
    by (p ∷ ps) s = refl

fresh_is : (e : Edit) → field_of Fresh e ≡ new_in e.0 e.1
fresh_is e = by e.0 e.1
  where
    by : (ps : List Part) (s : Step) → field_in Fresh ps s ≡ new_in ps s
    by [] (Sets (name k) a true) = refl
    by [] (Sets (name k) a false) = refl
    by [] (Sets (index n) a true) = refl
    by [] (Sets (index n) a false) = refl
    by [] (Unsets p) = refl
    by [] (Resizes n) = refl
    by (p ∷ ps) s = refl

length_is : (e : Edit) → field_of Length e ≡ length_in e.0 e.1
length_is e = by e.0 e.1
  where
    by : (ps : List Part) (s : Step) → field_in Length ps s ≡ length_in ps s
    by [] (Resizes n) = refl
    by [] (Sets p a fresh) = refl
    by [] (Unsets p) = refl
    by (p ∷ ps) s = refl

picked_same : {A B : Type 0} (f g : A → Option B) → ((x : A) → f x ≡ g x) → (xs : List A) → picked f xs ≡ picked g xs
picked_same f g h [] = refl
picked_same f g h (x ∷ xs) = (let a = h x in let b = picked_same f g h xs in λ i. onto (a i) (b i))

-- ---- the members of a part have all that it has

module _ {B : Type 0} (h : Edit → Option B) (keep : Edit → Bool) (none : (e : Edit) → keep e ≡ false → h e ≡ None) where
  kept_picked : (es : List Edit) → picked h (picked (λ e. if keep e then Some e else None) es) ≡ picked h es
  kept_picked [] = refl
  kept_picked (e ∷ es) = by (keep e) refl (kept_picked es)
    where
      by : (b : Bool) → keep e ≡ b → picked h (picked (λ d. if keep d then Some d else None) es) ≡ picked h es → picked h (onto (if b then Some e else None) (picked (λ d. if keep d then Some d else None) es)) ≡ onto (h e) (picked h es)
      by true k ih = ap (onto (h e)) ih
      by false k ih = ih ∙ sym (ap (λ (o : Option B). onto o (picked h es)) (none e k))

not_behind : (at : Bool) (r : Part) (e : Edit) → is_part r (part_by at e) ≡ false → behind r e ≡ None
not_behind at r e n = by at e.0 e.1 n
  where
    one : (p : Part) (ps : List Part) (s : Step) → same_part p r ≡ false → behind r (p ∷ ps, s) ≡ None
    one p ps s k = ap (λ (b : Bool). if b then Some (ps, s) else None) k

    by : (at : Bool) (ps : List Part) (s : Step) → is_part r (part_by at (ps, s)) ≡ false → behind r (ps, s) ≡ None
    by true [] s k = refl
    by true (p ∷ ps) s k = one p ps s k
    by false [] s k = refl
    by false (p ∷ ps) s k = one p ps s k

not_set : (r : Part) (e : Edit) → is_part r (part_by true e) ≡ false → set_at r e.0 e.1 ≡ None
not_set r e n = by e.0 e.1 n
  where
    by : (ps : List Part) (s : Step) → is_part r (part_by true (ps, s)) ≡ false → set_at r ps s ≡ None
    by (p ∷ ps) (Sets q a fresh) k = refl
    by (p ∷ ps) (Unsets q) k = refl
    by (p ∷ ps) (Resizes n) k = refl
    by [] (Sets q a fresh) k = cc
    by [] (Unsets q) k = refl
    by [] (Resizes n) k = refl

group_members : (at : Bool) (r : Part) (es : List Edit) → group r (members at r es) ≡ group r es
group_members at r es = kept_picked (behind r) (λ e. is_part r (part_by at e)) (not_behind at r) es

set_members : (r : Part) (es : List Edit) → picked (λ e. set_at r e.0 e.1) (members true r es) ≡ picked (λ e. set_at r e.0 e.1) es
set_members r es = kept_picked (λ e. set_at r e.0 e.1) (λ e. is_part r (part_by true e)) (not_set r) es

below_same : (f g : Part → Fields) (r : Part) (es : List Edit) → f r ≡ g r → below f r es ≡ below g r es
below_same f g r [] e = refl
below_same f g r (d ∷ es) e = ap (λ (fs : Fields). (s_of r, Object fs) ∷ []) e

abbrev go : ℕ → List Edit → Part → Fields
go n es r = diff n (group r es)

fields_at_is : (n : ℕ) (es : List Edit) (r : Part) → fields_at n (r, members true r es) ≡ at_part (go n es) es r
fields_at_is n es r =
    let same : group r (members true r es) ≡ group r es = group_members true r es in
    let set = set_members r es in
    below_step ∙ (λ i. set i ++ below (go n es) r (same i))
  where
    below_step : fields_at n (r, members true r es) ≡ picked (λ e. set_at r e.0 e.1) (members true r es) ++ below (go n es) r (group r (members true r es))
    below_step = ap (λ (fs : Fields). picked (λ e. set_at r e.0 e.1) (members true r es) ++ fs) (below_same (go n (members true r es)) (go n es) r (group r (members true r es)) (ap (diff n) (group_members true r es)))

below_is : (n : ℕ) (es : List Edit) (rs : List Part) → mapped (field_below n) (mapped (λ r. (r, members false r es)) rs) ≡ mapped (λ r. (s_of r, Object (go n es r))) rs
below_is n es [] = refl
below_is n es (r ∷ rs) = let a = group_members false r es in let b = below_is n es rs in λ i. (s_of r, Object (diff n (a i))) ∷ b i

at_are : (n : ℕ) (es : List Edit) (rs : List Part) → gathered (fields_at n) (mapped (λ r. (r, members true r es)) rs) ≡ gathered (at_part (go n es) es) rs
at_are n es [] = refl
at_are n es (r ∷ rs) = let a = fields_at_is n es r in let b = at_are n es rs in λ i. a i ++ b i

-- ---- by rising index

module _ (f : Part → List Edit) where
  put_is : (r : Part) (rs : List Part) → put_rising (r, f r) (mapped (λ q. (q, f q)) rs) ≡ mapped (λ q. (q, f q)) (inserted r rs)
  put_is r [] = refl
  put_is r (q ∷ rs) = by (is_before q r) (put_is r rs)
    where
      by : (b : Bool) → put_rising (r, f r) (mapped (λ q. (q, f q)) rs) ≡ mapped (λ q. (q, f q)) (inserted r rs) →
          (if b then (q, f q) ∷ put_rising (r, f r) (mapped (λ q. (q, f q)) rs) else (r, f r) ∷ ((q, f q) ∷ mapped (λ q. (q, f q)) rs)) ≡ mapped (λ q. (q, f q)) (if b then q ∷ inserted r rs else r ∷ (q ∷ rs))
      by true ih = ap (λ (l : List Group). (q, f q) ∷ l) ih
      by false ih = refl

  risen_is : (rs : List Part) → risen (mapped (λ q. (q, f q)) rs) ≡ mapped (λ q. (q, f q)) (rising rs)
  risen_is [] = refl
  risen_is (r ∷ rs) = ap (put_rising (r, f r)) (risen_is rs) ∙ put_is r (rising rs)

  parts_are : (rs : List Part) → parts_of (mapped (λ q. (q, f q)) rs) ≡ rs
  parts_are [] = refl
  parts_are (r ∷ rs) = ap (λ (l : List Part). r ∷ l) (parts_are rs)

pub grouped_once : (at : Bool) (es : List Edit) (gs : List Group) → gs ≡ grouped at es → IsOnce (parts_of gs)
grouped_once at es gs e = subst IsOnce (sym (ap parts_of e ∙ parts_are (λ r. members at r es) (parts_by at es))) (is_once (picked (part_by at) es))

-- ---- a loop over groups

gathered-append : {A B : Type 0} (f : A → List B) (xs ys : List A) → gathered f (xs ++ ys) ≡ gathered f xs ++ gathered f ys
gathered-append f [] ys = refl
gathered-append f (x ∷ xs) ys = ap (λ l. f x ++ l) (gathered-append f xs ys) ∙ sym (append_assoc (f x) (gathered f xs) (gathered f ys))

pub fields_put : (f : Group → List ℕ × Value) (xs : List PartEdits) (i : ℕ) (x : PartEdits) (old now new : List ℕ) → i < length xs → x ≡ get_or xs i x → now ≡ old ++ elements_of (mapped f (groups_in (take i xs))) → new ≡ now ++ elements_of (f (group_in x) ∷ []) → new ≡ old ++ elements_of (mapped f (groups_in (take (i + 1) xs)))
fields_put f xs i x old now new lt e inv put =
    both_put old now new (mapped f (groups_in (take i xs))) (f (group_in x) ∷ []) inv put
    ∙ ap (λ (fs : Fields). old ++ elements_of fs) (sym (ap (mapped f) (mapped_more group_in xs i x lt e) ∙ mapped-append f (groups_in (take i xs)) (group_in x ∷ [])))

pub gathered_put : (f : Group → Fields) (xs : List PartEdits) (i : ℕ) (x : PartEdits) (old now new : List ℕ) → i < length xs → x ≡ get_or xs i x → now ≡ old ++ elements_of (gathered f (groups_in (take i xs))) → new ≡ now ++ elements_of (f (group_in x)) → new ≡ old ++ elements_of (gathered f (groups_in (take (i + 1) xs)))
gathered_put f xs i x old now new lt e inv put =
    both_put old now new (gathered f (groups_in (take i xs))) (f (group_in x)) inv put
    ∙ ap (λ (fs : Fields). old ++ elements_of fs)
    (sym (ap (gathered f) (mapped_more group_in xs i x lt e) ∙ (gathered-append f (groups_in (take i xs)) (group_in x ∷ []) ∙ ap (λ (fs : Fields). gathered f (groups_in (take i xs)) ++ fs) (append-nil (f (group_in x))))))

-- ---- one level

module _ (n : ℕ) (es : List Edit) where
  abbrev sections : Fields → Fields → Fields → Fields → Fields
  sections a b c d = section d_name a ++ (section u_name b ++ (section i_name c ++ d))

  pub parts_put : (gs : List PartEdits) (i : ℕ) (old now : List ℕ) → groups_in gs ≡ grouped false es → length gs ≤ i → now ≡ old ++ elements_of (mapped (field_below n) (groups_in (take i gs))) → now ≡ old ++ elements_of (fields_below n es)
  parts_put gs i old now e le inv =
      let under : mapped (field_below n) (groups_in gs) ≡ fields_below n es = ap (mapped (field_below n)) e ∙ below_is n es (heads es) in
      inv ∙ ap (λ (l : List PartEdits). old ++ elements_of (mapped (field_below n) (groups_in l))) (take_all i gs le)
      ∙ ap (λ (fs : Fields). old ++ elements_of fs) under

  pub document_put : (old one two three now : List ℕ) → one ≡ old ++ elements_of (section d_name (fields_of Removed es)) → two ≡ one ++ elements_of (section u_name (fields_of Changed es)) → three ≡ two ++ elements_of (section i_name (fields_of Fresh es)) →
      now ≡ three ++ elements_of (fields_below n es) → now ≡ old ++ elements_of (document_diff (go n es) es)
  document_put old one two three now a b c whole =
      let d2 : Fields = section u_name (fields_of Changed es) in
      let d3 : Fields = section i_name (fields_of Fresh es) in
      let d4 : Fields = fields_below n es in
      let removed : fields_of Removed es ≡ picked (λ e. gone_in e.0 e.1) es = picked_same (field_of Removed) (λ e. gone_in e.0 e.1) removed_is es in
      let changed : fields_of Changed es ≡ picked (λ e. set_in e.0 e.1) es = picked_same (field_of Changed) (λ e. set_in e.0 e.1) changed_is es in
      let fresh : fields_of Fresh es ≡ picked (λ e. new_in e.0 e.1) es = picked_same (field_of Fresh) (λ e. new_in e.0 e.1) fresh_is es in
      both_put old one now (section d_name (fields_of Removed es)) (d2 ++ (d3 ++ d4)) a (both_put one two now d2 (d3 ++ d4) b (both_put two three now d3 d4 c whole))
      ∙ ap (λ (fs : Fields). old ++ elements_of fs) (λ k. sections (removed k) (changed k) (fresh k) d4)

  pub array_put : (gs : List PartEdits) (i : ℕ) (old one two now : List ℕ) → one ≡ old ++ element (a_name, spelling (Truth true)) → two ≡ one ++ elements_of (fields_of Length es) → groups_in gs ≡ risen (grouped true es) → length gs ≤ i →
      now ≡ two ++ elements_of (gathered (fields_at n) (groups_in (take i gs))) → now ≡ old ++ elements_of (array_diff (go n es) es)
  array_put gs i old one two now a b e le inv =
      let v : Fields = (a_name, Truth true) ∷ [] in
      let d : Fields = gathered (fields_at n) (groups_in gs) in
      let first : one ≡ old ++ elements_of v = as_fields old one a_name (Truth true) a in
      let whole : now ≡ two ++ elements_of d = inv ∙ ap (λ (l : List PartEdits). two ++ elements_of (gathered (fields_at n) (groups_in l))) (take_all i gs le) in
      let lengths : fields_of Length es ≡ picked (λ e. length_in e.0 e.1) es = picked_same (field_of Length) (λ e. length_in e.0 e.1) length_is es in
      let each : d ≡ gathered (at_part (go n es) es) (parts es) =
      ap (gathered (fields_at n)) (e ∙ risen_is (λ r. members true r es) (parts_by true es)) ∙ at_are n es (parts es) in
      both_put old one now v (fields_of Length es ++ d) first (both_put one two now (fields_of Length es) d b whole)
      ∙ ap (λ (fs : Fields). old ++ elements_of fs) (λ k. (a_name, Truth true) ∷ (lengths k ++ each k))

-- ---- a single edit

pub one_below : (n : ℕ) (p : Part) (ps : List Part) (s : Step) → fields_below n ((p ∷ ps, s) ∷ []) ≡ (s_of p, Object (diff n ((ps, s) ∷ []))) ∷ []
one_below n p ps s = ap (λ (b : Bool). (s_of p, Object (diff n (onto (if b then Some (ps, s) else None) []))) ∷ []) (own_part p)

pub none_below : (n : ℕ) (way : List Part) (s : Step) (out : List ℕ) → way ≡ [] → out ≡ out ++ elements_of (fields_below n ((way, s) ∷ []))
none_below n way s out e = sym (append-nil out) ∙ ap (λ (ps : List Part). out ++ elements_of (fields_below n ((ps, s) ∷ []))) (sym e)

pub alone_put : (n : ℕ) (way ps : List Part) (p : Part) (s : Step) (old new : List ℕ) → way ≡ p ∷ ps → new ≡ old ++ elements_of ((s_of p, Object (diff n ((ps, s) ∷ []))) ∷ []) → new ≡ old ++ elements_of (fields_below n ((way, s) ∷ []))
alone_put n way ps p s old new e put =
    put ∙ ap (λ (fs : Fields). old ++ elements_of fs) (sym (one_below n p ps s) ∙ ap (λ (l : List Part). fields_below n ((l, s) ∷ [])) (sym e))

-- ---- whether there are edits

is_zero : (n : ℕ) → (n == 0) ≡ true → n ≡ 0
is_zero n t = grind (arith, common_steps)

pub no_edits : (xs : List Held) (n : ℕ) (b : Bool) → b ≡ (n == 0) → n ≡ length xs → b ≡ true → edits_in xs ≡ []
no_edits [] n b e m t = refl
no_edits (x ∷ xs) n b e m t = by n m (sym e ∙ t)
  where
    by : (n : ℕ) → n ≡ length (x ∷ xs) → (n == 0) ≡ true → edits_in (x ∷ xs) ≡ []
    by n m t = absurd (omega (arith, m, is_zero n t))

pub some_edits : (xs : List Held) (n : ℕ) (b : Bool) → b ≡ (n == 0) → n ≡ length xs → b ≡ false → edits_in xs ≡ [] → ⊥
some_edits [] n b e m t k = let z : n ≡ 0 = m in let y : (n == 0) ≡ true = ap (λ (i : ℕ). i == 0) z in let w : true ≡ false = sym y ∙ (sym e ∙ t) in cc
some_edits (x ∷ xs) n b e m t k = cc

-- ---- one part of an array

pub without_below : (n : ℕ) (g : PartEdits) (es ms inner : List Held) (old one : List ℕ) → es ≡ g.edits.items → ms ≡ g.edits.items → edits_in inner ≡ group g.part.now (edits_in ms) → edits_in inner ≡ [] →
    one ≡ old ++ elements_of (picked (λ e. set_at g.part.now e.0 e.1) (edits_in es)) → one ≡ old ++ elements_of (fields_at n (group_in g))
without_below n g es ms inner old one e m is none a =
    let r : Part = g.part.now in
    let ds : List Edit = edits_in g.edits.items in
    let set : Fields = picked (λ e. set_at r e.0 e.1) ds in
    let empty : [] ≡ group r ds = sym none ∙ (is ∙ ap (λ (l : List Held). group r (edits_in l)) m) in
    a ∙ (ap (λ (l : List Held). old ++ elements_of (picked (λ e. set_at r e.0 e.1) (edits_in l))) e
    ∙ ap (λ (fs : Fields). old ++ elements_of fs) (sym (append-nil set) ∙ (λ k. set ++ below (go n ds) r (empty k))))

pub with_below : (n : ℕ) (g : PartEdits) (es ms inner ns : List Held) (old one two : List ℕ) → es ≡ g.edits.items → ms ≡ g.edits.items → ns ≡ inner → edits_in inner ≡ group g.part.now (edits_in ms) → (edits_in inner ≡ [] → ⊥) →
    one ≡ old ++ elements_of (picked (λ e. set_at g.part.now e.0 e.1) (edits_in es)) → two ≡ one ++ elements_of ((s_of g.part.now, Object (diff n (edits_in ns))) ∷ []) → two ≡ old ++ elements_of (fields_at n (group_in g))
with_below n g es ms inner ns old one two e m w is some a b =
    let r : Part = g.part.now in
    let ds : List Edit = edits_in g.edits.items in
    let set : Fields = picked (λ e. set_at r e.0 e.1) ds in
    let same : edits_in inner ≡ group r ds = is ∙ ap (λ (l : List Held). group r (edits_in l)) m in
    both_put old one two set ((s_of r, Object (diff n (edits_in ns))) ∷ []) (a ∙ ap (λ (l : List Held). old ++ elements_of (picked (λ e. set_at r e.0 e.1) (edits_in l))) e) b
    ∙ ap (λ (fs : Fields). old ++ elements_of (set ++ fs)) (ap (λ (l : List Edit). (s_of r, Object (diff n l)) ∷ []) (ap edits_in w ∙ same) ∙ by r ds (group r ds) (λ e. some (same ∙ e)))
  where
    by : (r : Part) (ds es : List Edit) → (es ≡ [] → ⊥) → (s_of r, Object (go n ds r)) ∷ [] ≡ below (go n ds) r es
    by r ds [] k = absurd (k refl)
    by r ds (e ∷ es) k = refl

-- ---- the whole

pub second_form : (ts : List Touch) (es : List Edit) (old one two : List ℕ) → es ≡ mapped edit_of ts → one ≡ old ++ element (v_name, spelling (Int (pos 2))) → two ≡ one ++ document_element diff_name (elements_of (diff 200 es)) → two ≡ old ++ elements_of (spelled_v2 200 (mapped edit_of ts))
second_form ts es old one two is a b =
    both_put old one two ((v_name, Int (pos 2)) ∷ []) ((diff_name, Object (diff 200 es)) ∷ []) (as_fields old one v_name (Int (pos 2)) a)
    (b ∙ ap (λ (l : List ℕ). one ++ l) (field_is diff_name (diff 200 es)))
    ∙ ap (λ (ds : List Edit). old ++ elements_of (spelled_v2 200 ds)) is
