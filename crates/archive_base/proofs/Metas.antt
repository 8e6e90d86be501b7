-- The metadata of the collections at Start make them without documents.
use Rattle.std.proofs.Common.{◌≡◌, ℕ, List, [], ◌∷◌, Bool, true, false, cond, refl, sym, ap, ◌∙◌, subst, Option, Some, None, inl, inr}
use Rattle.std.specs.Prelude.{⊤, ◌⊎◌, T, map as each, fold, option_map}
use Rattle.std.specs.FinMap as map
use Rattle.std.specs.FinMap.Entries.{is_sorted}
use Rattle.std.proofs.lemmas.Bool.{cases_Bool}
use Rattle.bson_value.specs.declared.namespace.NsName.{NsName}
use Rattle.bson_value.specs.NamespaceOrder.{namespace_cmp}
use Rattle.json_tree.specs.declared.tree.Tree.{Tree}
use Rattle.json_text.specs.Print.{text_of}
use Rattle.index_keys.specs.Definition.{normal}
use Rattle.metadata_text.specs.Metadata.{metadata_tree}
use Rattle.state_model.specs.Keys.{Key, key_cmp, same_ns}
use Rattle.state_model.specs.States.{State, Collection, or_fresh}
use Rattle.state_model.proofs.Keys.{ns_refl, ns_is, key_refl, key_is}
use Rattle.state_model.proofs.Maps.{key_at_insert, ns_at_insert, key_map_same, ns_map_same}
use Rattle.coll_state.specs.Rows.{Table, Rows, collection_of, state_of}
use Rattle.coll_state.specs.Changes.{under_names}
use Rattle.coll_state.specs.Definitions.{definition_name}
use Rattle.copy_model.specs.Copies.{copy_of}
use Rattle.archive_format.specs.Shapes.{is_oplog}
use Rattle.archive_content.specs.Pieces.{meta_taking}
use Rattle.restore_plan.specs.Base.{with_normal, normal_forms, options_in, definitions_in, options_taken, definitions_taken, described, described_in}
use Rattle.dump_model.specs.Archives.{metadata_of, metas_of}
use Rattle.recorded_entries.specs.Good.{IsGoodName, IsGoodDefinition}
use Rattle.recorded_entries.specs.Kept.{AreKept}
use Rattle.dump_steps.proofs.Pieces.{good_named, good_apart}
use Rattle.dump_content.proofs.Metas.{AllOf, not_oplog, table_of}
use Rattle.dump_content.proofs.Sorted.{AllEntries, each_entry, head_apart, head_alone, tail_sorted, put_all, or_in, get_put}
use Rattle.archive_base.specs.Laws.{AreReadAgain}
use Rattle.archive_base.proofs.Copies.{get_of_state}
use Rattle.archive_base.proofs.Parts.{full_step, full_from}

-- ---- definitions, in the order of their names

abbrev Definitions : Type 0
Definitions = List (Key × Tree)

abbrev AllNamed : Definitions → Type 0
AllNamed ds = AllEntries key_cmp key_refl key_is (λ i d. IsGoodDefinition d × (definition_name d ≡ i)) ds

abbrev puts : map.FinMap key_cmp Tree → Definitions → map.FinMap key_cmp Tree
puts m ds = put_all key_cmp key_refl key_is m ds

abbrev values_in : Definitions → List Tree
values_in ds = each (λ (e : Key × Tree). e.1) ds

normal_again : (ds : Definitions) → AllNamed ds → normal_forms (values_in ds) ≡ values_in ds
normal_again [] h = refl
normal_again (d ∷ ds) h = (λ i. with_normal (h.0.0.normal_form i) (normal_again ds h.1 i))

names_put : (m : map.FinMap key_cmp Tree) (ds : Definitions) → AllNamed ds → fold (λ m d. map.insert m (definition_name d) d) m (values_in ds) ≡ puts m ds
names_put m [] h = refl
names_put m (d ∷ ds) h = ap (λ (i : Key). fold (λ m d. map.insert m (definition_name d) d) (map.insert m i d.1) (values_in ds)) h.0.1 ∙ names_put (map.insert m d.0 d.1) ds h.1

or_none : (o : Option Tree) → or_in key_cmp key_refl key_is o None ≡ o
or_none None = refl
or_none (Some t) = refl

abbrev IndexesGood : Collection → Type 0
IndexesGood c = (i : Key) (d : Tree) → map.get c.indexes i ≡ Some d → IsGoodDefinition d × (definition_name d ≡ i)

all_named : (c : Collection) → IndexesGood c → AllNamed (map.entries c.indexes)
all_named c h = each_entry key_cmp key_refl key_is (λ i d. IsGoodDefinition d × (definition_name d ≡ i)) (map.entries c.indexes) (map.entries_sorted c.indexes) (λ i d e. h i d (map.get-entries c.indexes i ∙ e))

named_again : (c : Collection) → IndexesGood c → under_names (normal_forms (map.values c.indexes)) ≡ c.indexes
named_again c h =
    let a = all_named c h in
    ap under_names (normal_again (map.entries c.indexes) a)
    ∙ (names_put map.empty (map.entries c.indexes) a
    ∙ key_map_same _ _ (λ q. get_put key_cmp key_refl key_is key_at_insert map.empty (map.entries c.indexes) q (map.entries_sorted c.indexes)
    ∙ (ap (or_in key_cmp key_refl key_is (map.find key_cmp q (map.entries c.indexes))) (map.get-empty {X = Tree} key_cmp q)
    ∙ (or_none (map.find key_cmp q (map.entries c.indexes)) ∙ sym (map.get-entries c.indexes q)))))

-- ---- collections

abbrev bare : Collection → Collection
bare c = record { options = c.options; indexes = c.indexes; documents = map.empty }

abbrev Entries : Type 0
Entries = List (NsName × Collection)

abbrev AllGood : Entries → Type 0
AllGood es = AllOf (λ n c. IsGoodName n × IndexesGood c) es

abbrev AllMissing : State → Entries → Type 0
AllMissing s es = AllOf (λ n c. map.get s n ≡ None) es

abbrev or_there : Option Collection → Option Collection → Option Collection
or_there a b = or_in namespace_cmp ns_refl ns_is a b

of_meta : (s : State) (n : NsName) (c : Collection) → IsGoodName n → IndexesGood c → map.get s n ≡ None → AreReadAgain ((n, c) ∷ []) → full_step s (meta_taking (metadata_of (n, c))) ≡ map.insert s n (bare c)
of_meta s n c g k e r =
    let text = text_of (metadata_tree n.coll c.options (map.values c.indexes)) in
    let a : options_taken text ≡ c.options = ap options_in r.0 in
    let b : under_names (definitions_taken text) ≡ c.indexes = ap (λ x. under_names (definitions_in x)) r.0 ∙ named_again c k in
    ap (λ (x : Bool). cond x s (described_in s n (options_taken text) (definitions_taken text))) (not_oplog n (good_named n g) (good_apart n g))
    ∙ (λ i. map.insert s n (record { options = a i; indexes = b i; documents = (or_fresh (e i)).documents }))

other_ns : (a b : NsName) → (a ≡ b → ⊥) → same_ns a b ≡ false
other_ns a b h = elim (cases_Bool (same_ns a b)) [ inl e ↦ absurd (h (ns_is a b e)) | inr e ↦ e ]

still_missing : (s : State) (n : NsName) (v : Collection) (es : Entries) → AllMissing s es → AllOf (λ m c. n ≡ m → ⊥) es → AllMissing (map.insert s n v) es
still_missing s n v [] a h = tt
still_missing s n v (e ∷ es) a h = (ns_at_insert s n v e.0 ∙ (ap (λ (b : Bool). cond b (Some v) (map.get s e.0)) (other_ns e.0 n (λ x. h.0 (sym x))) ∙ a.0), still_missing s n v es a.1 h.1)

metas_make : (s : State) (es : Entries) (q : NsName) → T (is_sorted namespace_cmp es) → AllGood es → AllMissing s es → AreReadAgain es →
    map.get (full_from s (each meta_taking (each metadata_of es))) q ≡ or_there (option_map bare (map.find namespace_cmp q es)) (map.get s q)
metas_make s [] q o g a r = refl
metas_make s (e ∷ es) q o g a r =
    ap (λ (x : State). map.get (full_from x (each meta_taking (each metadata_of es))) q) (of_meta s e.0 e.1 g.0.0 g.0.1 a.0 (r.0, tt))
    ∙ (metas_make (map.insert s e.0 (bare e.1)) es q (tail_sorted namespace_cmp ns_refl ns_is e es o) g.1 (still_missing s e.0 (bare e.1) es a.1 (head_apart namespace_cmp ns_refl ns_is e es o)) r.1
    ∙ (ap (or_there (option_map bare (map.find namespace_cmp q es))) (ns_at_insert s e.0 (bare e.1) q) ∙ by (same_ns q e.0) refl))
  where
    by : (b : Bool) → same_ns q e.0 ≡ b → or_there (option_map bare (map.find namespace_cmp q es)) (cond b (Some (bare e.1)) (map.get s q)) ≡ or_there (option_map bare (cond b (Some e.1) (map.find namespace_cmp q es))) (map.get s q)
    by true f = ap (λ (x : Option Collection). or_there (option_map bare x) (Some (bare e.1))) (subst (λ (z : NsName). map.find namespace_cmp z es ≡ None) (sym (ns_is q e.0 f)) (head_alone namespace_cmp ns_refl ns_is e es o))
    by false f = refl

or_nothing : (o : Option Collection) → or_there o None ≡ o
or_nothing None = refl
or_nothing (Some c) = refl

all_good : (r : Rows) → AreKept r → AllGood (map.entries (state_of r))
all_good r h = each_entry namespace_cmp ns_refl ns_is (λ n c. IsGoodName n × IndexesGood c) (map.entries (state_of r)) (map.entries_sorted (state_of r)) (λ n c e.
    (let t = table_of r n c (map.get-entries (state_of r) n ∙ e) in let k = h n t.0 t.1 in (k.0, subst IndexesGood t.2 k.1.indexes)))

none_there : (es : Entries) → AllMissing map.empty es
none_there [] = tt
none_there (e ∷ es) = (map.get-empty {X = Collection} namespace_cmp e.0, none_there es)

pub of_metas : (r : Rows) → AreKept r → AreReadAgain (map.entries (state_of r)) → full_from map.empty (each meta_taking (metas_of (state_of r))) ≡ copy_of r []
of_metas r k h = ns_map_same _ _ (λ q.
    metas_make map.empty (map.entries (state_of r)) q (map.entries_sorted (state_of r)) (all_good r k) (none_there (map.entries (state_of r))) h
    ∙ (ap (or_there (option_map bare (map.find namespace_cmp q (map.entries (state_of r))))) (map.get-empty {X = Collection} namespace_cmp q)
    ∙ (or_nothing (option_map bare (map.find namespace_cmp q (map.entries (state_of r))))
    ∙ (ap (option_map bare) (sym (map.get-entries (state_of r) q)) ∙ sym (get_of_state r [] q)))))
