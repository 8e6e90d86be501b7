-- The metadata of the collections at Start may stand in a prelude.
use Rattle.std.proofs.Common.{◌≡◌, ℕ, List, [], ◌∷◌, ◌++◌, Bool, true, false, not, refl, sym, ap, ◌∙◌, subst, arith, Option, Some, None}
use Rattle.std.specs.Prelude.{⊤, ◌||◌, ◌&&◌, T, map as each, pos, codes, option_map}
use Rattle.std.specs.List.{list_any}
use Rattle.std.specs.Str.{is_utf8, bytes_eq}
use Rattle.std.proofs.lemmas.Slice.Eq.{bytes_eq-Decides}
use Rattle.std.specs.FinMap as map
use Rattle.std.specs.FinMap.Entries.{is_sorted}
use Rattle.bson_value.specs.declared.namespace.NsName.{NsName}
use Rattle.bson_value.specs.NamespaceOrder.{namespace_cmp}
use Rattle.state_model.specs.States.{State, Collection}
use Rattle.state_model.proofs.Keys.{ns_refl, ns_is}
use Rattle.coll_state.specs.Rows.{Table, Rows, collection_of, state_of}
use Rattle.coll_state.proofs.Links.{get_collection}
use Rattle.archive_format.specs.Shapes.{Header, Metadata, is_oplog}
use Rattle.archive_format.specs.Archive.{same_ns}
use Rattle.archive_format.specs.Written.{MetaFits}
use Rattle.archive_content.specs.Pieces.{IsNamed, IsHeader, IsMeta, AreMetas}
use Rattle.entry_documents.proofs.Documents.{a_text}
use Rattle.dump_model.specs.Archives.{header, metadata_of, metas_of}
use Rattle.recorded_entries.specs.Good.{IsGoodName}
use Rattle.recorded_entries.specs.Kept.{IsKeptTable, AreKept}
use Rattle.dump_steps.proofs.Pieces.{other_ns, good_named, good_apart}
use Rattle.dump_content.specs.Laws.{AreMetaTexts}
use Rattle.dump_content.proofs.Sorted.{AllEntries, each_entry, head_apart, tail_sorted}

pub is_header : IsHeader header
is_header = record { server = a_text _ refl; tool = a_text _ refl; number = omega arith; fits = omega arith }

abbrev Entries : Type 0
Entries = List (NsName × Collection)

abbrev pub AllOf : (NsName → Collection → Type 0) → Entries → Type 0
AllOf P es = AllEntries namespace_cmp ns_refl ns_is P es

pub not_oplog : (n : NsName) → IsNamed n → (n ≡ record { db = []; coll = codes "oplog" } → ⊥) → is_oplog n ≡ false
not_oplog n g h = by (bytes_eq n.db []) refl (bytes_eq n.coll (codes "oplog")) refl
  where
    by : (a : Bool) → bytes_eq n.db [] ≡ a → (b : Bool) → bytes_eq n.coll (codes "oplog") ≡ b → (bytes_eq n.db [] && bytes_eq n.coll (codes "oplog")) ≡ false
    by true e true f = absurd (h (λ i. record { db = (bytes_eq-Decides n.db []).0 e i; coll = (bytes_eq-Decides n.coll (codes "oplog")).0 f i }))
    by true e false f = λ i. e i && f i
    by false e b f = ap (λ (x : Bool). x && bytes_eq n.coll (codes "oplog")) e

-- not among those before
abbrev Apart : List NsName → Entries → Type 0
Apart before es = AllOf (λ n c. list_any (λ k. same_ns k n) before ≡ false) es

any_last : (n m : NsName) (before : List NsName) → list_any (λ k. same_ns k n) before ≡ false → (m ≡ n → ⊥) → list_any (λ k. same_ns k n) (before ++ m ∷ []) ≡ false
any_last n m [] e h = ap (λ (b : Bool). b || false) (other_ns m n h)
any_last n m (x ∷ xs) e h = by (same_ns x n) e (λ g. any_last n m xs g h)
  where
    by : (b : Bool) → (b || list_any (λ k. same_ns k n) xs) ≡ false → (list_any (λ k. same_ns k n) xs ≡ false → list_any (λ k. same_ns k n) (xs ++ m ∷ []) ≡ false) → (b || list_any (λ k. same_ns k n) (xs ++ m ∷ [])) ≡ false
    by true g more = cc
    by false g more = more g

apart_more : (before : List NsName) (m : NsName) (es : Entries) → Apart before es → AllOf (λ n c. m ≡ n → ⊥) es → Apart (before ++ m ∷ []) es
apart_more before m [] a h = tt
apart_more before m (e ∷ es) a h = (any_last e.0 m before a.0 h.0, apart_more before m es a.1 h.1)

metas_are : (before : List NsName) (es : Entries) → T (is_sorted namespace_cmp es) → AllOf (λ n c. IsGoodName n) es → Apart before es → AreMetaTexts (each metadata_of es) → AreMetas before (each metadata_of es)
metas_are before [] s g a t = tt
metas_are before (e ∷ es) s g a t =
    let named = good_named e.0 g.0 in (
      record { texts = named.texts; text = t.0; fits = t.1; named = named.named; other = not_oplog e.0 named (good_apart e.0 g.0) },
      a.0,
      metas_are (before ++ e.0 ∷ []) es (tail_sorted namespace_cmp ns_refl ns_is e es s) g.1 (apart_more before e.0 es a.1 (head_apart namespace_cmp ns_refl ns_is e es s)) t.2,
    )

none_before : (es : Entries) → Apart [] es
none_before [] = tt
none_before (e ∷ es) = (refl, none_before es)

-- a collection of a state is that of a table
pub table_of : (r : Rows) (n : NsName) (c : Collection) → map.get (state_of r) n ≡ Some c → (t : Table) × (map.get r.tables n ≡ Some t) × (collection_of t ≡ c)
table_of r n c e = by (map.get r.tables n) refl (sym (get_collection r n) ∙ e)
  where
    by : (o : Option Table) → map.get r.tables n ≡ o → option_map collection_of o ≡ Some c → (t : Table) × (map.get r.tables n ≡ Some t) × (collection_of t ≡ c)
    by None f g = cc
    by (Some t) f g = (t, f, (let q : collection_of t ≡ c = cc in q))

pub all_good : (r : Rows) → AreKept r → AllOf (λ n c. IsGoodName n) (map.entries (state_of r))
all_good r h = each_entry namespace_cmp ns_refl ns_is (λ n c. IsGoodName n) (map.entries (state_of r)) (map.entries_sorted (state_of r)) (λ n c e. (let t = table_of r n c (map.get-entries (state_of r) n ∙ e) in (h n t.0 t.1).0))

pub are_metas : (r : Rows) → AreKept r → AreMetaTexts (metas_of (state_of r)) → AreMetas [] (metas_of (state_of r))
are_metas r h t = metas_are [] (map.entries (state_of r)) (map.entries_sorted (state_of r)) (all_good r h) (none_before (map.entries (state_of r))) t
