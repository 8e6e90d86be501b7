-- What a metadata text means is normal and well-formed, and has few levels.
use Rattle.std.proofs.Common.{◌≡◌, ℕ, ◌+◌, ◌≤◌, Bool as Truth, true, false, cond, List, [], ◌∷◌, length, Option, Some, None, Ordering, Result, Ok, Err, refl, sym, ap, ◌∙◌, subst, inl, inr, arith}
use Rattle.std.specs.Prelude.{fold, option_map, codes, IfOk}
use Rattle.std.specs.Ordering.{nat_cmp, ordering_reverse, match_ordering}
use Rattle.std.specs.declared.cmp.Ordering.TheVariants.{Less, Equal, Greater}
use Rattle.std.specs.Cmp.Lexicographic.{slice_cmp}
use Rattle.std.specs.List.{AllByRecursion}
use Rattle.std.specs.Str.{bytes_eq}
use Rattle.std.specs.BTreeMap.{insert_entry}
use Rattle.std.proofs.lemmas.Bool.{cases_Bool}
use Rattle.std.proofs.lemmas.Cmp.{nat_list_cmp_total}
use Rattle.std.proofs.lemmas.Map.Lookups.{exact_bytes}
use Rattle.std.proofs.lemmas.Slice.Eq.{bytes_eq-Decides}
use Rattle.containers.specs.Entries.{lookup}
use Rattle.json_tree.specs.declared.tree.Tree.{Tree, Tree-F, out-Tree, roll-Tree, roll-out-Tree}
use Rattle.json_tree.specs.declared.tree.Tree.TheVariants as trees
use Rattle.json_tree.specs.Levels.{levels_of, items_levels, field_levels}
use Rattle.json_tree.specs.WellFormed.{IsWellFormed, AreWellFormedItems, AreWellFormedFields}
use Rattle.json_tree.proofs.Levels.{levels_at, levels_out, fields_same}
use Rattle.json_tree.proofs.WellFormed.{HoldsWellFormed, held_well, well_object}
use Rattle.json_text.specs.Reading.{tree_of_text}
use Rattle.json_text.proofs.FoundValues.{json_found}
use Rattle.json_text.proofs.FoundWell.{json_well}
use Rattle.extjson.specs.Plain.{has_plain_parts, wrapped_numbers}
use Rattle.extjson.proofs.Wrapping.{told_object, other_object, parts_none}
use Rattle.extjson.proofs.Once.{wrapped_once}
use Rattle.extjson.proofs.Deeper.{wrapped_shallow}
use Rattle.extjson.proofs.Formed.{wrapped_well}
use Rattle.extjson.proofs.Shallow.{of_object}
use Rattle.metadata_text.specs.declared.fault.MetaFault.{MetaFault}
use Rattle.metadata_text.specs.Metadata.{Named, Gives, is_object_at, is_object, definition_name, name_first, named, put_in_order, in_order, trees_of, definitions_of, options_in, options_of, indexes_at, indexes_in, indexes_of, both_or, members_meta, tree_meta, metadata_of}
use Rattle.metadata_text.specs.RoundTrip.{AllBehind, AreRising, AreOthers, AreNormal, AreShallow, HasRoom}

abbrev by_name : List ℕ → List ℕ → Ordering
by_name = slice_cmp nat_cmp

-- ---- a definition more

abbrev All : (List ℕ × Tree → Type 0) → Named → Type 0
All P es = AllByRecursion P es

module _ (n : List ℕ) (d : Tree) where
  all_case : (P : List ℕ × Tree → Type 0) (e : List ℕ × Tree) (es : Named) (o : Ordering) → by_name n e.0 ≡ o → P (n, d) → All P (e ∷ es) → All P (insert_entry by_name es n d) → All P (match_ordering o ((n, d) ∷ e ∷ es) ((e.0, d) ∷ es) (e ∷ insert_entry by_name es n d))
  all_case P e es Less h p k r = (p, k)
  all_case P e es Equal h p k r = (subst (λ (m : List ℕ). P (m, d)) (exact_bytes n e.0 h) p, k.1)
  all_case P e es Greater h p k r = (k.0, r)

  all_insert : (P : List ℕ × Tree → Type 0) (es : Named) → P (n, d) → All P es → All P (insert_entry by_name es n d)
  all_insert P [] p k = (p, tt)
  all_insert P (e ∷ es) p k = all_case P e es (by_name n e.0) refl p k (all_insert P es p k.1)

  turned : (x y : List ℕ) (o : Ordering) → by_name x y ≡ o → by_name y x ≡ ordering_reverse o
  turned x y o h = let total = nat_list_cmp_total in total.antisymm y x ∙ ap ordering_reverse h

  behind_both : (x y z : List ℕ) → by_name x y ≡ Greater → by_name y z ≡ Greater → by_name x z ≡ Greater
  behind_both x y z h k = let total = nat_list_cmp_total in turned z x Less (total.trans z y x (turned y z Greater k) (turned x y Greater h))

  all_behind : (m : List ℕ) (es : Named) → by_name m n ≡ Greater → AllBehind m es → AllBehind n es
  all_behind m [] h k = tt
  all_behind m (e ∷ es) h k = (behind_both e.0 m n k.0 h, all_behind m es h k.1)

  rising_case : (e : List ℕ × Tree) (es : Named) (o : Ordering) → by_name n e.0 ≡ o → AreRising (e ∷ es) → AreRising (insert_entry by_name es n d) → AreRising (match_ordering o ((n, d) ∷ e ∷ es) ((e.0, d) ∷ es) (e ∷ insert_entry by_name es n d))
  rising_case e es Less h k r = let first = turned n e.0 Less h in ((first, all_behind e.0 es first k.0), k)
  rising_case e es Equal h k r = k
  rising_case e es Greater h k r = (all_insert (λ f. by_name f.0 e.0 ≡ Greater) es h k.0, r)

  rising_insert : (es : Named) → AreRising es → AreRising (insert_entry by_name es n d)
  rising_insert [] k = (tt, tt)
  rising_insert (e ∷ es) k = rising_case e es (by_name n e.0) refl k (rising_insert es k.1)

-- ---- definitions in order

-- a name beside its definition, which is well-formed and has so few levels
record IsEntry (levels : ℕ) (e : List ℕ × Tree) : Type 0 where
  name : definition_name e.1 ≡ Some e.0
  formed : IsWellFormed e.1
  few : levels_of e.1 ≤ levels

record AreInOrder (levels : ℕ) (es : Named) : Type 0 where
  entries : All (IsEntry levels) es
  rising : AreRising es
  others : AreOthers es

module _ (levels : ℕ) where
  id_case : (done : Named) (e : List ℕ × Tree) (b : Truth) → bytes_eq e.0 (codes "_id_") ≡ b → IsEntry levels e → AreInOrder levels done → AreInOrder levels (cond b done (insert_entry by_name done e.0 e.1))
  id_case done e true h p k = k
  id_case done e false h p k =
      let other : e.0 ≡ codes "_id_" → ⊥ = λ q. let t : true ≡ false = sym ((bytes_eq-Decides e.0 (codes "_id_")).1 q) ∙ h in absurd cc in
      record { entries = all_insert e.0 e.1 (IsEntry levels) done p k.entries; rising = rising_insert e.0 e.1 done k.rising; others = all_insert e.0 e.1 (λ f. f.0 ≡ codes "_id_" → ⊥) done other k.others }

  ordered : (es done : Named) → All (IsEntry levels) es → AreInOrder levels done → AreInOrder levels (fold put_in_order done es)
  ordered [] done k o = o
  ordered (e ∷ es) done k o = ordered es (put_in_order done e) k.1 (id_case done e (bytes_eq e.0 (codes "_id_")) refl k.0 o)

  first_case : (d : Tree) (o : Option (List ℕ)) (r : Option Named) (es : Named) → definition_name d ≡ o → IsWellFormed d → levels_of d ≤ levels → ((fs : Named) → r ≡ Some fs → All (IsEntry levels) fs) → name_first d o r ≡ Some es → All (IsEntry levels) es
  first_case d None r es e w l k h = absurd cc
  first_case d (Some n) None es e w l k h = absurd cc
  first_case d (Some n) (Some fs) es e w l k h =
      let is : (n, d) ∷ fs ≡ es = cc in
      subst (All (IsEntry levels)) is (record { name = e; formed = w; few = l }, k fs refl)

  entries_of : (ds : List Tree) (es : Named) → AreWellFormedItems ds → items_levels ds ≤ levels → named ds ≡ Some es → All (IsEntry levels) es
  unfolding named
  entries_of [] es w l h = let is : [] ≡ es = cc in subst (All (IsEntry levels)) is tt
  entries_of (d ∷ ds) es w l h = first_case d (definition_name d) (named ds) es refl w.0 (omega (arith, l)) (λ fs g. entries_of ds fs w.1 (omega (arith, l)) g) h

  -- what the definitions are
  record AreDefinitions (ds : List Tree) : Type 0 where
    names : Named
    named_so : named ds ≡ Some names
    rising : AreRising names
    others : AreOthers names
    formed : AreWellFormedItems ds
    few : items_levels ds ≤ levels

  names_back : (es : Named) → All (IsEntry levels) es → named (trees_of es) ≡ Some es
  unfolding named
  names_back [] k = refl
  names_back (e ∷ es) k = let p = k.0 in rw (p.name, names_back es k.1) refl

  trees_formed : (es : Named) → All (IsEntry levels) es → AreWellFormedItems (trees_of es)
  trees_formed [] k = tt
  trees_formed (e ∷ es) k = let p = k.0 in (p.formed, trees_formed es k.1)

  trees_few : (es : Named) → All (IsEntry levels) es → items_levels (trees_of es) ≤ levels
  trees_few [] k = omega arith
  trees_few (e ∷ es) k = let p = k.0 in omega (arith, p.few, trees_few es k.1)

  are_definitions : (es : Named) → AreInOrder levels es → AreDefinitions (trees_of es)
  are_definitions es k = record { names = es; named_so = names_back es k.entries; rising = k.rising; others = k.others; formed = trees_formed es k.entries; few = trees_few es k.entries }

  none_ordered : AreInOrder levels []
  none_ordered = record { entries = tt; rising = tt; others = tt }

  named_case : (r : Option Named) (out : List Tree) → ((es : Named) → r ≡ Some es → All (IsEntry levels) es) → option_map (λ es. trees_of (in_order es)) r ≡ Some out → AreDefinitions out
  unfolding in_order
  named_case None out k h = absurd cc
  named_case (Some es) out k h =
      let is : trees_of (fold put_in_order [] es) ≡ out = cc in
      subst AreDefinitions is (are_definitions (fold put_in_order [] es) (ordered es [] (k es refl) none_ordered))

  definitions_are : (ds out : List Tree) → AreWellFormedItems ds → items_levels ds ≤ levels → definitions_of ds ≡ Some out → AreDefinitions out
  unfolding definitions_of
  definitions_are ds out w l h = named_case (named ds) out (λ es g. entries_of ds es w l g) h

  indexes_case : (x : Tree-F Tree) (out : List Tree) → HoldsWellFormed x → levels_at x ≤ levels + 1 → indexes_at x ≡ Some out → AreDefinitions out
  indexes_case (Tree-F.Items ds) out w l h = definitions_are ds out w (omega (arith, l)) h
  indexes_case Tree-F.Null out w l h = absurd cc
  indexes_case (Tree-F.Bool b) out w l h = absurd cc
  indexes_case (Tree-F.Number t) out w l h = absurd cc
  indexes_case (Tree-F.Str t) out w l h = absurd cc
  indexes_case (Tree-F.Object es) out w l h = absurd cc

-- ---- members

-- a value that is well-formed and has so few levels
abbrev Fits : ℕ → Tree → Type 0
Fits n t = IsWellFormed t × (levels_of t ≤ n)

abbrev FitsIf : ℕ → Option Tree → Type 0
FitsIf n None = Unit {0}
FitsIf n (Some t) = Fits n t

found_case : (n : ℕ) (e : List ℕ × Tree) (r : Option Tree) (b : Truth) → Fits n e.1 → FitsIf n r → FitsIf n (cond b (Some e.1) r)
found_case n e r true f k = f
found_case n e r false f k = k

found : (n : ℕ) (name : List ℕ) (es : Named) → AreWellFormedFields es → field_levels es ≤ n → FitsIf n (lookup name es)
found n name [] w l = tt
found n name (e ∷ es) w l = found_case n e (lookup name es) (bytes_eq e.0 name) (w.0, omega (arith, l)) (found n name es w.1 (omega (arith, l)))

indexes_are : (n : ℕ) (o : Option Tree) (out : List Tree) → FitsIf (n + 1) o → indexes_in o ≡ Some out → AreDefinitions n out
indexes_are n None out f h = let is : [] ≡ out = cc in subst (AreDefinitions n) is (are_definitions n [] (none_ordered n))
indexes_are n (Some t) out f h = indexes_case n (out-Tree t) out (held_well t f.0) (omega (arith, f.1, levels_out t)) h

-- ---- options

record AreOptions (n : ℕ) (o : Tree) : Type 0 where
  object : is_object o ≡ true
  wrapped : wrapped_numbers o ≡ o
  formed : IsWellFormed o
  few : levels_of o ≤ n + 1

object_at : (es : Named) → is_object (trees.Object es) ≡ true
unfolding is_object
object_at es = ap is_object_at (trees.outs-Object es)

object_stays : (es : Named) → is_object (wrapped_numbers (trees.Object es)) ≡ true
object_stays es =
    elim (cases_Bool (has_plain_parts es)) [
      | inl h ↦ ap is_object (told_object es h) ∙ object_at es
      | inr h ↦ ap is_object (other_object es h) ∙ object_at _
    ]

stays_at : (x : Tree-F Tree) → is_object_at x ≡ true → is_object (wrapped_numbers (roll-Tree x)) ≡ true
stays_at (Tree-F.Object es) h = ap (λ (t : Tree). is_object (wrapped_numbers t)) (trees.rolls-Object es) ∙ object_stays es
stays_at Tree-F.Null h = absurd cc
stays_at (Tree-F.Bool b) h = absurd cc
stays_at (Tree-F.Number t) h = absurd cc
stays_at (Tree-F.Str t) h = absurd cc
stays_at (Tree-F.Items ts) h = absurd cc

stays : (t : Tree) → is_object t ≡ true → is_object (wrapped_numbers t) ≡ true
unfolding is_object
stays t h = ap (λ (u : Tree). is_object_at (out-Tree (wrapped_numbers u))) (sym (roll-out-Tree t)) ∙ stays_at (out-Tree t) h

no_options : (n : ℕ) → AreOptions n (trees.Object [])
no_options n = record { object = object_at []; wrapped = other_object [] (parts_none [] (omega arith)); formed = well_object [] (tt, tt) tt; few = omega (arith, of_object []) }

options_case : (n : ℕ) (t out : Tree) (b : Truth) → is_object t ≡ b → Fits n t → cond b (Some (wrapped_numbers t)) None ≡ Some out → AreOptions n out
options_case n t out false e f h = absurd cc
options_case n t out true e f h =
    let is : wrapped_numbers t ≡ out = cc in
    subst (AreOptions n) is (record { object = stays t e; wrapped = wrapped_once t; formed = wrapped_well t f.0; few = omega (arith, f.1, (wrapped_shallow t).1) })

options_are : (n : ℕ) (o : Option Tree) (out : Tree) → FitsIf n o → options_in o ≡ Some out → AreOptions n out
options_are n None out f h = let is : trees.Object [] ≡ out = cc in subst (AreOptions n) is (no_options n)
options_are n (Some t) out f h = options_case n t out (is_object t) refl f h

-- ---- the whole text

abbrev Means : ℕ → Tree → List Tree → Type 0
Means n o ds = AreOptions (n + 1) o × AreDefinitions n ds

both_case : (n end : ℕ) (o : Tree) (ds : List Tree) (p : Option Tree) (q : Option (List Tree)) → ((x : Tree) → p ≡ Some x → AreOptions (n + 1) x) → ((xs : List Tree) → q ≡ Some xs → AreDefinitions n xs) → both_or end p q ≡ Ok (o, ds) → Means n o ds
both_case n end o ds None q k l h = absurd cc
both_case n end o ds (Some x) None k l h = absurd cc
both_case n end o ds (Some x) (Some xs) k l h =
    let is : (x, xs) ≡ (o, ds) = cc in
    subst (λ (r : Tree × List Tree). Means n r.0 r.1) is (k x refl, l xs refl)

members_are : (n end : ℕ) (x : Tree-F Tree) (o : Tree) (ds : List Tree) → HoldsWellFormed x → levels_at x ≤ n + 2 → members_meta end x ≡ Ok (o, ds) → Means n o ds
unfolding options_of indexes_of
members_are n end (Tree-F.Object es) o ds w l h =
    let few : field_levels es ≤ n + 1 = omega (arith, l, fields_same es) in
    both_case n end o ds (options_of es) (indexes_of es) (λ x e. options_are (n + 1) (lookup (codes "options") es) x (found (n + 1) (codes "options") es w few) e)
    (λ xs e. indexes_are n (lookup (codes "indexes") es) xs (found (n + 1) (codes "indexes") es w few) e) h
members_are n end Tree-F.Null o ds w l h = absurd cc
members_are n end (Tree-F.Bool b) o ds w l h = absurd cc
members_are n end (Tree-F.Number t) o ds w l h = absurd cc
members_are n end (Tree-F.Str t) o ds w l h = absurd cc
members_are n end (Tree-F.Items ts) o ds w l h = absurd cc

tree_are : (n end : ℕ) (text : List ℕ) (r : Result Tree ℕ) (o : Tree) (ds : List Tree) → tree_of_text text ≡ r → ((t : Tree) → tree_of_text text ≡ Ok t → levels_of t ≤ n + 2) → tree_meta end r ≡ Ok (o, ds) → Means n o ds
tree_are n end text (Err at) o ds e l h = absurd cc
tree_are n end text (Ok t) o ds e l h =
    let well = json_well text t (json_found text t e) in
    members_are n end (out-Tree t) o ds (held_well t well.0) (omega (arith, l t e, levels_out t)) h

meant : (n : ℕ) (text : List ℕ) (o : Tree) (ds : List Tree) → ((t : Tree) → tree_of_text text ≡ Ok t → levels_of t ≤ n + 2) → metadata_of text ≡ Ok (o, ds) → Means n o ds
unfolding metadata_of
meant n [] o ds l h =
    let is : (trees.Object [], []) ≡ (o, ds) = cc in
    subst (λ (r : Tree × List Tree). Means n r.0 r.1) is (no_options (n + 1), are_definitions n [] (none_ordered n))
meant n (b ∷ bs) o ds l h = tree_are n (length (b ∷ bs)) (b ∷ bs) (tree_of_text (b ∷ bs)) o ds refl l h

at_most : (text : List ℕ) (t : Tree) → tree_of_text text ≡ Ok t → levels_of t ≤ 254 + 2
at_most text t e = (json_well text t (json_found text t e)).1

-- ---- what a call read

abbrev Read : Type 0
Read = Result (Tree × List Tree) MetaFault

pub read_formed : (r : Read) (text : List ℕ) → Gives r (metadata_of text) → IfOk r (λ x. IsWellFormed x.0 × AreWellFormedItems x.1)
read_formed (Err e) text h = tt
read_formed (Ok (o, ds)) text h = let m = meant 254 text o ds (at_most text) h in let p = m.0 in let q = m.1 in (p.formed, q.formed)

pub read_normal : (r : Read) (text : List ℕ) → Gives r (metadata_of text) → IfOk r (λ x. AreNormal x.0 x.1)
read_normal (Err e) text h = tt
read_normal (Ok (o, ds)) text h =
    let m = meant 254 text o ds (at_most text) h in
    let p = m.0 in
    let q = m.1 in
    record { object = p.object; wrapped = p.wrapped; names = q.names; named_so = q.named_so; rising = q.rising; others = q.others }

pub read_levels : (r : Read) (text : List ℕ) → Gives r (metadata_of text) → IfOk r (λ x. (levels_of x.0 ≤ 256) × (items_levels x.1 ≤ 254))
read_levels (Err e) text h = tt
read_levels (Ok (o, ds)) text h = let m = meant 254 text o ds (at_most text) h in let p = m.0 in let q = m.1 in (omega (arith, p.few), q.few)

pub read_shallow : (r : Read) (text : List ℕ) → Gives r (metadata_of text) → HasRoom text → IfOk r (λ x. AreShallow x.0 x.1)
read_shallow (Err e) text h room = tt
read_shallow (Ok (o, ds)) text h room =
    let m = meant 253 text o ds room h in
    let p = m.0 in
    let q = m.1 in
    record { options_levels = omega (arith, p.few); defs_levels = omega (arith, q.few) }
