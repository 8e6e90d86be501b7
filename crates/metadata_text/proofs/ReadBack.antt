-- A metadata text means what it was written of.
use Rattle.std.proofs.Common.{◌≡◌, ℕ, suc, ◌≤◌, max, Bool as Truth, true, false, eqb, List, [], ◌∷◌, ◌++◌, length, map, Option, Some, None, Result, Ok, Err, refl, sym, ap, ◌∙◌, append_assoc, arith}
use Rattle.std.specs.Prelude.{fold, codes, IfOk, OnOk}
use Rattle.std.specs.Ordering.{nat_cmp}
use Rattle.std.specs.declared.cmp.Ordering.TheVariants.{Greater}
use Rattle.std.specs.Cmp.Lexicographic.{slice_cmp}
use Rattle.std.specs.List.{AllByRecursion}
use Rattle.std.specs.Str.{is_utf8, bytes_eq}
use Rattle.std.proofs.lemmas.Bool.{ne_eqb}
use Rattle.std.specs.BTreeMap.{insert_entry}
use Rattle.std.proofs.lemmas.List.{append-nil}
use Rattle.std.proofs.lemmas.Slice.Eq.{bytes_eq-Decides}
use Rattle.json_tree.specs.declared.tree.Tree.{Tree, Tree-F, fold-roll-Tree}
use Rattle.json_tree.specs.declared.tree.Tree.TheVariants as trees
use Rattle.json_text.specs.Print.{text_of, print_step}
use Rattle.json_tree.specs.Levels.{largest, levels_step, levels_of}
use Rattle.json_tree.specs.WellFormed.{IsWellFormed, AreWellFormedItems}
use Rattle.json_tree.proofs.WellFormed.{well_str, well_items, well_object}
use Rattle.json_text.proofs.Reprinted.{print_read}
use Rattle.extjson.specs.Trees.{wrapped}
use Rattle.extjson.proofs.Formed.{ascii}
use Rattle.metadata_text.specs.Metadata.{Named, definition_name, name_first, named, put_in_order, in_order, trees_of, definitions_of, is_object_at, name_at, text_at, is_object, options_of, indexes_at, indexes_of, metadata_of, id_definition, metadata_tree}
use Rattle.metadata_text.specs.RoundTrip.{AllBehind, AreRising, AreOthers, AreNormal, AreShallow, WrittenIsRead}
use Rattle.metadata_text.proofs.Shapes.{both_there}

-- ---- names that rise stay as they are

not_id : (n : List ℕ) (b : Truth) → bytes_eq n (codes "_id_") ≡ b → (n ≡ codes "_id_" → ⊥) → bytes_eq n (codes "_id_") ≡ false
not_id n true e h = absurd (h ((bytes_eq-Decides n (codes "_id_")).0 e))
not_id n false e h = e

-- this name comes behind all of these
abbrev IsBehind : Named → List ℕ → Type 0
IsBehind done n = AllByRecursion (λ e. slice_cmp nat_cmp n e.0 ≡ Greater) done

put_last : (done : Named) (n : List ℕ) (d : Tree) → IsBehind done n → insert_entry (slice_cmp nat_cmp) done n d ≡ done ++ (n, d) ∷ []
put_last [] n d h = refl
put_last (e ∷ done) n d h = rw h.0 (ap (λ (l : Named). e ∷ l) (put_last done n d h.1))

behind_push : (done : Named) (e : List ℕ × Tree) (n : List ℕ) → IsBehind done n → slice_cmp nat_cmp n e.0 ≡ Greater → IsBehind (done ++ e ∷ []) n
behind_push [] e n h g = (g, tt)
behind_push (f ∷ done) e n h g = (h.0, behind_push done e n h.1 g)

all_push : (done es : Named) (e : List ℕ × Tree) → AllByRecursion (λ f. IsBehind done f.0) es → AllBehind e.0 es → AllByRecursion (λ f. IsBehind (done ++ e ∷ []) f.0) es
all_push done [] e h g = tt
all_push done (f ∷ es) e h g = (behind_push done e f.0 h.0 g.0, all_push done es e h.1 g.1)

stay : (es done : Named) → AreRising es → AreOthers es → AllByRecursion (λ f. IsBehind done f.0) es → fold put_in_order done es ≡ done ++ es
stay [] done r o b = sym (append-nil done)
stay (e ∷ es) done r o b =
    let other = not_id e.0 (bytes_eq e.0 (codes "_id_")) refl o.0 in
    let put : put_in_order done e ≡ done ++ e ∷ [] = rw other (put_last done e.0 e.1 b.0) in
    ap (λ (m : Named). fold put_in_order m es) put ∙ stay es (done ++ e ∷ []) r.1 o.1 (all_push done es e b.1 r.0) ∙ append_assoc done (e ∷ []) es

none_before : (es : Named) → AllByRecursion (λ f. IsBehind [] f.0) es
none_before [] = tt
none_before (e ∷ es) = (tt, none_before es)

one_more : (d : Tree) (o : Option (List ℕ)) (r : Option Named) (ds : List Tree) (es : Named) → ((fs : Named) → r ≡ Some fs → trees_of fs ≡ ds) → name_first d o r ≡ Some es → trees_of es ≡ d ∷ ds
one_more d None r ds es k h = absurd cc
one_more d (Some n) None ds es k h = absurd cc
one_more d (Some n) (Some fs) ds es k h = let e : (n, d) ∷ fs ≡ es = cc in ap trees_of (sym e) ∙ ap (λ (l : List Tree). d ∷ l) (k fs refl)

same_trees : (ds : List Tree) (es : Named) → named ds ≡ Some es → trees_of es ≡ ds
unfolding named
same_trees [] es h = let e : [] ≡ es = cc in ap trees_of (sym e)
same_trees (d ∷ ds) es h = one_more d (definition_name d) (named ds) ds es (same_trees ds) h

-- ---- the members

differ : (m n : List ℕ) → bytes_eq m n ≡ false → m ≡ n → ⊥
differ m n e p = let q : true ≡ false = sym ((bytes_eq-Decides m n).1 p) ∙ e in absurd cc

is_obj : (es : List (List ℕ × Tree)) → is_object (trees.Object es) ≡ true
unfolding is_object
is_obj es = ap is_object_at (trees.outs-Object es)

abbrev int_text : List ℕ → Tree
int_text t = wrapped (codes "$numberInt") (trees.Str t)

abbrev id_fields : List (List ℕ × Tree)
id_fields = (codes "v", int_text (codes "2")) ∷ (codes "key", wrapped (codes "_id") (int_text (codes "1"))) ∷ (codes "name", trees.Str (codes "_id_")) ∷ []

id_named : definition_name id_definition ≡ Some (codes "_id_")
unfolding definition_name
id_named = ap name_at (trees.outs-Object id_fields) ∙ rw (is_obj ((codes "_id", int_text (codes "1")) ∷ [])) (ap text_at (trees.outs-Str (codes "_id_")))

definitions_back : (ds : List Tree) (es : Named) → named ds ≡ Some es → AreRising es → AreOthers es → definitions_of (id_definition ∷ ds) ≡ Some ds
unfolding definitions_of in_order named
definitions_back ds es h r o = rw (id_named, h) (ap (λ (l : Named). Some (trees_of l)) (stay es [] r o (none_before es)) ∙ ap (λ (l : List Tree). Some l) (same_trees ds es h))

module _ (coll : List ℕ) (options : Tree) (defs : List Tree) (text : is_utf8 coll ≡ true) (formed : IsWellFormed options) (formed_defs : AreWellFormedItems defs) (shallow : AreShallow options defs) (w : AreNormal options defs) where
  abbrev fields : List (List ℕ × Tree)
  fields = (codes "options", options) ∷ (codes "indexes", trees.Items (id_definition ∷ defs)) ∷ (codes "collectionName", trees.Str coll) ∷ (codes "type", trees.Str (codes "collection")) ∷ []

  options_back : options_of fields ≡ Some options
  unfolding options_of
  options_back = rw w.object (ap (λ (t : Tree). Some t) w.wrapped)

  indexes_back : indexes_of fields ≡ Some defs
  unfolding indexes_of
  indexes_back = ap indexes_at (trees.outs-Items (id_definition ∷ defs)) ∙ definitions_back defs w.names w.named_so w.rising w.others

  -- ---- the tree is well-formed

  well_wrapped : (name : List ℕ) (t : Tree) → is_utf8 name ≡ true → IsWellFormed t → IsWellFormed (wrapped name t)
  well_wrapped name t u k = well_object ((name, t) ∷ []) (((tt, tt)), (u, tt)) (k, tt)

  well_int : (t : List ℕ) → is_utf8 t ≡ true → IsWellFormed (int_text t)
  well_int t u = well_wrapped (codes "$numberInt") (trees.Str t) (ascii (codes "$numberInt") refl) (well_str t u)

  well_id : IsWellFormed id_definition
  well_id = well_object id_fields
      (((differ (codes "v") (codes "key") refl, (differ (codes "v") (codes "name") refl, tt)), ((differ (codes "key") (codes "name") refl, tt), (tt, tt))), (ascii (codes "v") refl, (ascii (codes "key") refl, (ascii (codes "name") refl, tt))))
      (well_int (codes "2") (ascii (codes "2") refl), (well_wrapped (codes "_id") (int_text (codes "1")) (ascii (codes "_id") refl) (well_int (codes "1") (ascii (codes "1") refl)), (well_str (codes "_id_") (ascii (codes "_id_") refl), tt)))

  well_all : IsWellFormed (trees.Object fields)
  well_all = well_object fields (
    (
      (differ (codes "options") (codes "indexes") refl, (differ (codes "options") (codes "collectionName") refl, (differ (codes "options") (codes "type") refl, tt))),
      ((differ (codes "indexes") (codes "collectionName") refl, (differ (codes "indexes") (codes "type") refl, tt)), ((differ (codes "collectionName") (codes "type") refl, tt), (tt, tt))),
    ),
    (ascii (codes "options") refl, (ascii (codes "indexes") refl, (ascii (codes "collectionName") refl, (ascii (codes "type") refl, tt)))),
  )
      (formed, (well_items (id_definition ∷ defs) (well_id, formed_defs), (well_str coll text, (well_str (codes "collection") (ascii (codes "collection") refl), tt))))

  -- ---- its levels

  object_levels : (es : List (List ℕ × Tree)) → levels_of (trees.Object es) ≡ levels_step (Tree-F.Object (map (λ e. (e.0, levels_of e.1)) es))
  unfolding levels_of
  object_levels es = ap levels_of (sym (trees.rolls-Object es)) ∙ fold-roll-Tree ℕ levels_step (Tree-F.Object es)

  item_levels : (ts : List Tree) → levels_of (trees.Items ts) ≡ suc (largest (map levels_of ts))
  unfolding levels_of
  item_levels ts = ap levels_of (sym (trees.rolls-Items ts)) ∙ fold-roll-Tree ℕ levels_step (Tree-F.Items ts)

  str_levels : (t : List ℕ) → levels_of (trees.Str t) ≡ 0
  unfolding levels_of
  str_levels t = ap levels_of (sym (trees.rolls-Str t)) ∙ fold-roll-Tree ℕ levels_step (Tree-F.Str t)

  one_levels : (name : List ℕ) (t : Tree) → levels_of (wrapped name t) ≡ suc (max (levels_of t) 0)
  one_levels name t = object_levels ((name, t) ∷ [])

  int_levels : (t : List ℕ) → levels_of (int_text t) ≤ 1
  int_levels t = omega (arith, one_levels (codes "$numberInt") (trees.Str t), str_levels t)

  id_levels : levels_of id_definition ≤ 3
  id_levels = omega (arith, object_levels id_fields, int_levels (codes "2"), one_levels (codes "_id") (int_text (codes "1")), int_levels (codes "1"), str_levels (codes "_id_"))

  all_levels : levels_of (trees.Object fields) ≤ 256
  all_levels = omega (arith, object_levels fields, shallow.options_levels, item_levels (id_definition ∷ defs), id_levels, shallow.defs_levels, str_levels coll, str_levels (codes "collection"))

  -- ---- the text

  object_first : (es : List (List ℕ × Tree)) → (l : List ℕ) × (text_of (trees.Object es) ≡ 123 ∷ l)
  object_first es = (_, ap text_of (sym (trees.rolls-Object es)) ∙ fold-roll-Tree (List ℕ) print_step (Tree-F.Object es))

  not_empty : eqb (length (text_of (trees.Object fields))) 0 ≡ false
  not_empty = let p = object_first fields in ne_eqb (length (text_of (trees.Object fields))) 0 (λ e. omega (arith, ap length p.1, e))

  meta_back : metadata_of (text_of (trees.Object fields)) ≡ Ok (options, defs)
  meta_back = both_there (text_of (trees.Object fields)) not_empty fields (print_read (trees.Object fields) well_all all_levels) options defs options_back indexes_back

pub written_is_read : WrittenIsRead
unfolding metadata_tree
written_is_read coll options defs text formed formed_defs shallow w = meta_back coll options defs text formed formed_defs shallow w

-- the text that a call wrote
pub text_back : {E : Type 0} (r : Result (List ℕ) E) (coll : List ℕ) (options : Tree) (defs : List Tree) → IfOk r (λ t. t ≡ text_of (metadata_tree coll options defs)) → OnOk r ((is_utf8 coll ≡ true) × IsWellFormed options × AreWellFormedItems defs)
    → AreShallow options defs → AreNormal options defs → IfOk r (λ t. metadata_of t ≡ Ok (options, defs))
text_back (Ok t) coll options defs e k shallow normal = ap metadata_of e ∙ written_is_read coll options defs k.0 k.1 k.2 shallow normal
text_back (Err x) coll options defs e k shallow normal = tt
