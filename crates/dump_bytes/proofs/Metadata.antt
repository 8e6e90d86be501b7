-- The metadata of what is kept is a text of few bytes.
use Rattle.std.proofs.Common.{◌≡◌, ℕ, ◌+◌, ◌*◌, ◌≤◌, List, [], ◌∷◌, ◌++◌, length, true, refl, sym, ap, ◌∙◌, subst, arith, map as each}
use Rattle.std.specs.Prelude.{codes}
use Rattle.std.specs.FinMap as map
use Rattle.std.specs.Str.{IsUtf8, is_utf8}
use Rattle.std.proofs.lemmas.List.{length-append}
use Rattle.std.proofs.lemmas.Str.{IsUtf8-append, IsUtf8-from_is_utf8, is_utf8-from_IsUtf8, IsUtf8-nil}
use Rattle.bson_value.specs.declared.namespace.NsName.{NsName}
use Rattle.bson_value.specs.declared.value.Value.{Object}
use Rattle.bson_value.specs.NamespaceOrder.{namespace_cmp}
use Rattle.bson_value.specs.WellFormed.{IsWellFormedDocument}
use Rattle.bson_value.proofs.WellFormed.{formed_object}
use Rattle.json_tree.specs.declared.tree.Tree.{Tree}
use Rattle.json_tree.specs.declared.tree.Tree.TheVariants as trees
use Rattle.json_tree.proofs.WellFormed.{well_str}
use Rattle.json_text.specs.Print.{behind_commas, text_of}
use Rattle.extjson.specs.Trees.{tree_of}
use Rattle.metadata_text.specs.Metadata.{metadata_tree}
use Rattle.metadata_text.proofs.Shapes.{written}
use Rattle.state_model.specs.Keys.{Key, key_cmp}
use Rattle.state_model.specs.States.{State, Collection}
use Rattle.state_model.proofs.Keys.{key_refl, key_is, ns_refl, ns_is}
use Rattle.coll_state.specs.Rows.{Document as Fields, Table, Rows, state_of}
use Rattle.coll_state.specs.Definitions.{definition_name}
use Rattle.history_model.specs.Documents.{options_of}
use Rattle.entry_documents.proofs.Documents.{a_text}
use Rattle.archive_format.specs.Written.{MetaFits}
use Rattle.formed_trees.specs.Laws.{TreesAreFormed}
use Rattle.printed_texts.specs.Laws.{PrintsAreTexts, StringsAreShort}
use Rattle.dump_model.specs.Archives.{metadata_of, metas_of}
use Rattle.recorded_entries.specs.Good.{IsGoodName, IsGoodDefinition}
use Rattle.recorded_entries.specs.Kept.{IsKeptTable, AreKept}
use Rattle.recorded_entries.proofs.Names.{good_db, good_coll}
use Rattle.dump_steps.specs.Laws.{StepsFollow}
use Rattle.dump_content.specs.Laws.{AreMetaTexts}
use Rattle.dump_content.proofs.Metas.{AllOf, table_of}
use Rattle.dump_content.proofs.Sorted.{AllEntries, each_entry}
use Rattle.dump_bytes.specs.Laws.{MetadataFits}

abbrev Definitions : Type 0
Definitions = List (Key × Tree)

abbrev AllNamed : Definitions → Type 0
AllNamed ds = AllEntries key_cmp key_refl key_is (λ i d. IsGoodDefinition d × (definition_name d ≡ i)) ds

abbrev values_in : Definitions → List Tree
values_in ds = each (λ (e : Key × Tree). e.1) ds

-- ---- the pieces of a metadata text

abbrev front : List ℕ
front = codes "{\"options\":"

abbrev indexes_text : List ℕ
indexes_text = codes ",\"indexes\":[{\"v\":{\"$numberInt\":\"2\"},\"key\":{\"_id\":{\"$numberInt\":\"1\"}},\"name\":\"_id_\"}"

abbrev name_text : List ℕ
name_text = codes "],\"collectionName\":"

abbrev end_text : List ℕ
end_text = codes ",\"type\":\"collection\"}"

-- seven pieces, one after the other
abbrev joined : List ℕ → List ℕ → List ℕ → List ℕ → List ℕ → List ℕ → List ℕ → List ℕ
joined f o i d n c e = (((((f ++ o) ++ i) ++ d) ++ n) ++ c) ++ e

joined_text : (f o i d n c e : List ℕ) → IsUtf8 f → IsUtf8 o → IsUtf8 i → IsUtf8 d → IsUtf8 n → IsUtf8 c → IsUtf8 e → IsUtf8 (joined f o i d n c e)
joined_text f o i d n c e hf ho hi hd hn hc he =
    IsUtf8-append _ e (IsUtf8-append _ c (IsUtf8-append _ n (IsUtf8-append _ d (IsUtf8-append _ i (IsUtf8-append f o hf ho) hi) hd) hn) hc) he

joined_size : (f o i d n c e : List ℕ) → length (joined f o i d n c e) ≡ length f + length o + length i + length d + length n + length c + length e
joined_size f o i d n c e =
    omega (
      arith,
      length-append (((((f ++ o) ++ i) ++ d) ++ n) ++ c) e,
      length-append ((((f ++ o) ++ i) ++ d) ++ n) c,
      length-append (((f ++ o) ++ i) ++ d) n,
      length-append ((f ++ o) ++ i) d,
      length-append (f ++ o) i,
      length-append f o,
    )

-- ---- collections

-- a text of few bytes
abbrev Fits : NsName → Collection → Type 0
Fits n c = (is_utf8 (metadata_of (n, c)).text ≡ true) × MetaFits (metadata_of (n, c))

all_fit : (es : List (NsName × Collection)) → AllOf Fits es → AreMetaTexts (each metadata_of es)
all_fit [] h = tt
all_fit (e ∷ es) h = (h.0.0, h.0.1, all_fit es h.1)

module _ (formed : TreesAreFormed) (prints : PrintsAreTexts) (strings : StringsAreShort) where
  tree_text : (fs : Fields) → IsWellFormedDocument fs → is_utf8 (text_of (options_of fs)) ≡ true
  unfolding options_of
  tree_text fs h = prints (tree_of (Object fs)) (formed (Object fs) (formed_object fs h))

  definition_text : (d : Tree) → IsGoodDefinition d → IsUtf8 (text_of d)
  definition_text d g = subst (λ (t : Tree). IsUtf8 (text_of t)) (sym g.tree) (IsUtf8-from_is_utf8 _ (tree_text g.fields g.formed))

  definitions_text : (ds : Definitions) → AllNamed ds → IsUtf8 (behind_commas (each text_of (values_in ds)))
  definitions_text [] h = IsUtf8-nil
  definitions_text (d ∷ ds) h =
      IsUtf8-append (44 ∷ text_of d.1) (behind_commas (each text_of (values_in ds))) (IsUtf8-append (44 ∷ []) (text_of d.1) (IsUtf8-from_is_utf8 _ (a_text (44 ∷ []) refl)) (definition_text d.1 h.0.0)) (definitions_text ds h.1)

  definitions_size : (ds : Definitions) → AllNamed ds → length (behind_commas (each text_of (values_in ds))) ≤ 8193 * length ds
  definitions_size [] h = omega arith
  definitions_size (d ∷ ds) h = let s = h.0.0.short in omega (arith, s, definitions_size ds h.1, length-append (44 ∷ text_of d.1) (behind_commas (each text_of (values_in ds))))

  metadata_fits : (n : NsName) (t : Table) → IsGoodName n → IsKeptTable t → Fits n (record { options = t.options; indexes = t.indexes; documents = map.empty })
  metadata_fits n t g k =
      let ds = map.entries t.indexes in
      let o = k.options.0 in
      let q = k.options.1 in
      let e : t.options ≡ options_of o = k.options.2 in
      let a : AllNamed ds = each_entry key_cmp key_refl key_is (λ i d. IsGoodDefinition d × (definition_name d ≡ i)) ds (map.entries_sorted t.indexes) (λ i d f. k.indexes i d (map.get-entries t.indexes i ∙ f)) in
      let db = good_db n g in
      let coll = good_coll n g in
      let text : text_of (metadata_tree n.coll t.options (map.values t.indexes)) ≡ joined front (text_of t.options) indexes_text (behind_commas (each text_of (values_in ds))) name_text (text_of (trees.Str n.coll)) end_text = written n.coll t.options (map.values t.indexes) in
      let options : IsUtf8 (text_of t.options) = subst (λ (x : Tree). IsUtf8 (text_of x)) (sym e) (IsUtf8-from_is_utf8 _ (tree_text o q.formed)) in
      let short : length (text_of t.options) ≤ 8192 = subst (λ (x : Tree). length (text_of x) ≤ 8192) (sym e) q.short in
      let name : IsUtf8 (text_of (trees.Str n.coll)) = IsUtf8-from_is_utf8 _ (prints (trees.Str n.coll) (well_str n.coll (a_text n.coll coll.letters))) in
      let whole : IsUtf8 (text_of (metadata_tree n.coll t.options (map.values t.indexes))) = subst IsUtf8 (sym text)
      (joined_text front (text_of t.options) indexes_text (behind_commas (each text_of (values_in ds))) name_text (text_of (trees.Str n.coll)) end_text
      (IsUtf8-from_is_utf8 front (a_text front refl)) options (IsUtf8-from_is_utf8 indexes_text (a_text indexes_text refl)) (definitions_text ds a) (IsUtf8-from_is_utf8 name_text (a_text name_text refl)) name (IsUtf8-from_is_utf8 end_text (a_text end_text refl))) in
      let few : length ds ≤ 63 = omega (arith, k.few, map.len-entries t.indexes) in
      let size = joined_size front (text_of t.options) indexes_text (behind_commas (each text_of (values_in ds))) name_text (text_of (trees.Str n.coll)) end_text in
      (is_utf8-from_IsUtf8 _ whole, omega (arith, ap length text, size, short, definitions_size ds a, few, strings n.coll, db.short, coll.short))

  kept_fit : (r : Rows) → AreKept r → AreMetaTexts (metas_of (state_of r))
  kept_fit r h = all_fit (map.entries (state_of r)) (each_entry namespace_cmp ns_refl ns_is Fits (map.entries (state_of r)) (map.entries_sorted (state_of r)) (λ n c e.
      (let t = table_of r n c (map.get-entries (state_of r) n ∙ e) in let k = h n t.0 t.1 in subst (Fits n) t.2 (metadata_fits n t.0 k.0 k.1))))

  pub texts_fit : StepsFollow → MetadataFits
  texts_fit follow s w done = (let f = follow s w done in subst (λ (z : State). AreMetaTexts (metas_of z)) f.at_start (kept_fit f.rows f.kept))
