-- What is written of options and definitions is read as them.
use Rattle.std.proofs.Common.{◌≡◌, ℕ, ◌≤◌, List, [], ◌∷◌, Bool, true, refl, sym, ap, ◌∙◌, subst, arith, Option, Some, None}
use Rattle.std.specs.Prelude.{⊤, T, map as each, option_map, codes, Ok, if◌then◌else◌}
use Rattle.std.specs.Ordering.{is_lt, ordering_reverse}
use Rattle.std.specs.declared.cmp.Ordering.{Ordering}
use Rattle.std.specs.declared.cmp.Ordering.TheVariants.{Less, Equal, Greater}
use Rattle.std.specs.FinMap as map
use Rattle.std.specs.FinMap.Entries.{below_all, is_sorted}
use Rattle.containers.specs.Entries.{lookup}
use Rattle.bson_value.specs.declared.namespace.NsName.{NsName}
use Rattle.bson_value.specs.declared.value.Value.{Object, Str}
use Rattle.bson_value.specs.declared.value.Value.TheVariants as values
use Rattle.bson_value.specs.NamespaceOrder.{namespace_cmp}
use Rattle.bson_value.specs.Levels as sizes
use Rattle.bson_value.specs.WellFormed.{IsWellFormedDocument}
use Rattle.bson_value.proofs.WellFormed.{formed_object}
use Rattle.bson_value.proofs.Sizes.{levels-object}
use Rattle.json_tree.specs.declared.tree.Tree.{Tree, out-Tree}
use Rattle.json_tree.specs.declared.tree.Tree.TheVariants as trees
use Rattle.json_tree.specs.WellFormed.{IsWellFormed, AreWellFormedItems}
use Rattle.json_tree.specs.Levels.{levels_of, items_levels}
use Rattle.json_text.specs.Print.{text_of}
use Rattle.extjson.specs.Trees.{tree_of, fields_of}
use Rattle.extjson.specs.Plain.{wrapped_numbers}
use Rattle.extjson.proofs.Unwrapped.{trees_wrapped}
use Rattle.extjson.proofs.Shallow.{trees_shallow}
use Rattle.metadata_text.specs.Metadata.{is_object, is_object_at, text_at, text_in, name_beside, name_at, name_first, named, metadata_of, metadata_tree}
use Rattle.metadata_text.specs.Metadata as metadata
use Rattle.metadata_text.specs.RoundTrip.{AllBehind, AreRising, AreOthers, WrittenIsRead}
use Rattle.state_model.specs.Keys.{Key, key_cmp}
use Rattle.state_model.specs.States.{State, Collection}
use Rattle.state_model.proofs.Keys.{key_total, key_refl, key_is, ns_refl, ns_is}
use Rattle.coll_state.specs.Rows.{Document as Fields, Table, state_of}
use Rattle.coll_state.specs.Definitions.{definition_name}
use Rattle.history_model.specs.Documents.{options_of}
use Rattle.entry_documents.proofs.Documents.{a_text}
use Rattle.formed_trees.proofs.Formed.{trees_formed}
use Rattle.recorded_entries.specs.Good.{IsGoodName, IsGoodDefinition}
use Rattle.recorded_entries.specs.Kept.{IsKeptTable}
use Rattle.recorded_entries.proofs.Names.{good_coll}
use Rattle.dump_steps.proofs.DumpRuns.{steps_follow}
use Rattle.dump_content.proofs.Metas.{AllOf, table_of}
use Rattle.dump_content.proofs.Sorted.{AllEntries, each_entry, first_of, second_of}
use Rattle.archive_base.specs.Laws.{AreReadAgain}
use Rattle.metadata_again.specs.Laws.{KeptIsReadAgain, StartIsReadAgain}
use Rattle.recorded_entries.proofs.Definitions.{tree_object, tree_str, lookup_trees}

-- ---- the tree of a document

well_tree : (fs : Fields) → IsWellFormedDocument fs → IsWellFormed (options_of fs)
unfolding options_of
well_tree fs h = trees_formed (Object fs) (formed_object fs h)

shallow_tree : (fs : Fields) → sizes.levels_of fs ≤ 100 → levels_of (options_of fs) ≤ 203
unfolding options_of
shallow_tree fs h = omega (arith, h, trees_shallow (Object fs), levels-object fs)

wrapped_tree : (fs : Fields) → IsWellFormedDocument fs → wrapped_numbers (options_of fs) ≡ options_of fs
unfolding options_of
wrapped_tree fs h = trees_wrapped (Object fs) (formed_object fs h)

object_is : (fs : Fields) → is_object (tree_of (Object fs)) ≡ true
unfolding is_object
object_is fs = ap is_object (tree_object fs) ∙ ap is_object_at (trees.outs-Object (fields_of fs))

options_object : (fs : Fields) → is_object (options_of fs) ≡ true
unfolding options_of
options_object fs = object_is fs

text_is : (t : List ℕ) → text_in (Some (tree_of (Str t))) ≡ Some t
text_is t = ap (λ (u : Tree). text_at (out-Tree u)) (tree_str t) ∙ ap text_at (trees.outs-Str t)

-- ---- the name of a definition

name_is : (fs k : Fields) (nm : List ℕ) → lookup (codes "key") fs ≡ Some (Object k) → lookup (codes "name") fs ≡ Some (Str nm) → metadata.definition_name (options_of fs) ≡ Some nm
unfolding options_of metadata.definition_name
name_is fs k nm e f =
    ap (λ (t : Tree). name_at (out-Tree t)) (tree_object fs)
    ∙ (ap name_at (trees.outs-Object (fields_of fs))
    ∙ ((λ i. name_beside ((lookup_trees (codes "key") fs ∙ ap (option_map tree_of) e) i) ((lookup_trees (codes "name") fs ∙ ap (option_map tree_of) f) i))
    ∙ (ap (λ (b : Bool). if b then text_in (Some (tree_of (Str nm))) else None) (object_is k) ∙ text_is nm)))

good_name : (d : Tree) → IsGoodDefinition d → metadata.definition_name d ≡ Some (definition_name d)
good_name d g = ap metadata.definition_name g.tree ∙ name_is g.fields g.key.0 (definition_name d) g.key.1 g.name

-- ---- definitions, by name

abbrev Definitions : Type 0
Definitions = List (Key × Tree)

abbrev AllNamed : Definitions → Type 0
AllNamed ds = AllEntries key_cmp key_refl key_is (λ i d. IsGoodDefinition d × (definition_name d ≡ i)) ds

abbrev values_in : Definitions → List Tree
values_in ds = each (λ (e : Key × Tree). e.1) ds

all_well : (ds : Definitions) → AllNamed ds → AreWellFormedItems (values_in ds)
all_well [] h = tt
all_well (d ∷ ds) h = (let g = h.0.0 in subst IsWellFormed (sym g.tree) (well_tree g.fields g.formed), all_well ds h.1)

all_shallow : (ds : Definitions) → AllNamed ds → items_levels (values_in ds) ≤ 203
all_shallow [] h = omega arith
all_shallow (d ∷ ds) h =
    let g = h.0.0 in
    let a : levels_of d.1 ≤ 203 = subst (λ (t : Tree). levels_of t ≤ 203) (sym g.tree) (shallow_tree g.fields g.shallow) in
    omega (arith, a, all_shallow ds h.1)

all_named : (ds : Definitions) → AllNamed ds → named (values_in ds) ≡ Some ds
unfolding named
all_named [] h = refl
all_named (d ∷ ds) h =
    ap (λ (o : Option (List ℕ)). name_first d.1 o (named (values_in ds))) (good_name d.1 h.0.0 ∙ ap Some h.0.1)
    ∙ ap (name_first d.1 (Some d.0)) (all_named ds h.1)

behind : (a b : Key) → T (is_lt (key_cmp a b)) → key_cmp b a ≡ Greater
behind a b h = by (key_cmp a b) refl h
  where
    by : (o : Ordering) → key_cmp a b ≡ o → T (is_lt o) → key_cmp b a ≡ Greater
    by Less e p = key_total.antisymm b a ∙ ap ordering_reverse e
    by Equal e p = absurd p
    by Greater e p = absurd p

all_behind : (n : Key) (ds : Definitions) → T (below_all key_cmp n ds) → AllBehind n ds
all_behind n [] h = tt
all_behind n (d ∷ ds) h = (behind n d.0 (first_of (is_lt (key_cmp n d.0)) (below_all key_cmp n ds) h), all_behind n ds (second_of (is_lt (key_cmp n d.0)) (below_all key_cmp n ds) h))

all_rising : (ds : Definitions) → T (is_sorted key_cmp ds) → AreRising ds
all_rising [] h = tt
all_rising (d ∷ ds) h = (all_behind d.0 ds (first_of (below_all key_cmp d.0 ds) (is_sorted key_cmp ds) h), all_rising ds (second_of (below_all key_cmp d.0 ds) (is_sorted key_cmp ds) h))

all_others : (ds : Definitions) → AllNamed ds → AreOthers ds
all_others [] h = tt
all_others (d ∷ ds) h = ((λ e. (let o = h.0.0.other in o (h.0.1 ∙ e))), all_others ds h.1)

-- ---- collections

module _ (written : WrittenIsRead) where
  read_again : (n : NsName) (t : Table) → IsGoodName n → IsKeptTable t → metadata_of (text_of (metadata_tree n.coll t.options (map.values t.indexes))) ≡ Ok (t.options, map.values t.indexes)
  read_again n t g k =
      let ds = map.entries t.indexes in
      let o = k.options.0 in
      let q = k.options.1 in
      let e : t.options ≡ options_of o = k.options.2 in
      let a : AllNamed ds = each_entry key_cmp key_refl key_is (λ i d. IsGoodDefinition d × (definition_name d ≡ i)) ds (map.entries_sorted t.indexes) (λ i d f. k.indexes i d (map.get-entries t.indexes i ∙ f)) in
      let c = good_coll n g in
      let well : IsWellFormed t.options = subst IsWellFormed (sym e) (well_tree o q.formed) in
      let levels : levels_of t.options ≤ 203 = subst (λ (x : Tree). levels_of x ≤ 203) (sym e) (shallow_tree o q.shallow) in
      written n.coll t.options (map.values t.indexes) (a_text n.coll c.letters) well (all_well ds a)
      (record { options_levels = omega (arith, levels); defs_levels = omega (arith, all_shallow ds a) })
      (record {
        object = ap is_object e ∙ options_object o;
        wrapped = ap wrapped_numbers e ∙ (wrapped_tree o q.formed ∙ sym e);
        names = ds;
        named_so = all_named ds a;
        rising = all_rising ds (map.entries_sorted t.indexes);
        others = all_others ds a;
      })

  abbrev IsReadAgain : NsName → Collection → Type 0
  IsReadAgain n c = metadata_of (text_of (metadata_tree n.coll c.options (map.values c.indexes))) ≡ Ok (c.options, map.values c.indexes)

  all_again : (es : List (NsName × Collection)) → AllOf IsReadAgain es → AreReadAgain es
  all_again [] h = tt
  all_again (e ∷ es) h = (h.0, all_again es h.1)

  pub kept_again : KeptIsReadAgain
  kept_again r h = all_again (map.entries (state_of r)) (each_entry namespace_cmp ns_refl ns_is IsReadAgain (map.entries (state_of r)) (map.entries_sorted (state_of r)) (λ n c e.
      (let t = table_of r n c (map.get-entries (state_of r) n ∙ e) in let k = h n t.0 t.1 in subst (IsReadAgain n) t.2 (read_again n t.0 k.0 k.1))))

  pub start_again : StartIsReadAgain
  start_again s d = (let f = steps_follow s d.given d.done in subst (λ (z : State). AreReadAgain (map.entries z)) f.at_start (kept_again f.rows f.kept))
