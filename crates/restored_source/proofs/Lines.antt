-- States that are shown alike, with the same numbers, have one listing.
use Rattle.std.proofs.Common.{◌≡◌, ℕ, suc, List, [], ◌∷◌, ◌++◌, length, map as each, refl, sym, ap, ◌∙◌, Option, Some, None}
use Rattle.std.specs.Prelude.{option_map, codes}
use Rattle.std.specs.List.{flat_map}
use Rattle.std.specs.Ordering.{nat_cmp}
use Rattle.std.specs.Cmp.Lexicographic.{slice_cmp}
use Rattle.std.specs.FinMap as map
use Rattle.bson_value.specs.declared.namespace.NsName.{NsName}
use Rattle.bson_value.specs.declared.value.Value.{Value, Value-F, out-Value, out-roll-Value, fold_out-Value, map-Value}
use Rattle.bson_value.specs.Alike.{by_name, ordered_step, ordered}
use Rattle.bson_value.specs.NamespaceOrder.{namespace_cmp}
use Rattle.json_tree.specs.declared.tree.Tree.{Tree}
use Rattle.state_model.specs.Keys.{Key}
use Rattle.state_model.specs.States.{State, Collection}
use Rattle.state_model.specs.Shown.{ShownCollection, shown_document, shown_collection, shown as shown_state}
use Rattle.state_model.proofs.Shown.{answers_on, some_shown}
use Rattle.index_keys.specs.Keys.{Fields}
use Rattle.index_build.specs.Documents.{fields, fields_at, documents}
use Rattle.index_build.specs.Numbers.{number, numbers, numbers_of, numbers_in, counts}
use Rattle.document_lines.specs.declared.form.ListForm.{ListForm}
use Rattle.document_lines.specs.Lines.{line, shown, in_order, document_line}
use Rattle.state_listing.specs.Listing.{head_text, index_line, indexes_text, collection_text, listing}
use Rattle.index_build.proofs.Alike.{same_names}

-- ---- documents

no_length : {A : Type 0} (es : List A) → length es ≡ 0 → es ≡ []
no_length [] e = refl
no_length (x ∷ es) e = cc

no_fields : by_name {A = Value} [] ≡ []
unfolding by_name
no_fields = no_length (map.entries (map.empty {X = Value} {R = slice_cmp nat_cmp})) (sym (map.len-entries (map.empty {X = Value} {R = slice_cmp nat_cmp})) ∙ map.len-empty (slice_cmp nat_cmp) Value)

level_fields : (f : Value-F Value) → fields_at (out-Value (ordered_step (map-Value Value Value ordered f))) ≡ in_order (fields_at f)
level_fields (Value-F.Object fs) = ap fields_at (out-roll-Value _)
level_fields (Value-F.ScopedCode t fs) = ap fields_at (out-roll-Value _) ∙ sym no_fields
level_fields (Value-F.Array vs) = ap fields_at (out-roll-Value _) ∙ sym no_fields
level_fields _ = ap fields_at (out-roll-Value _) ∙ sym no_fields

fields_ordered : (v : Value) → fields (ordered v) ≡ in_order (fields v)
unfolding ordered
fields_ordered v = ap fields (fold_out-Value Value ordered_step v) ∙ level_fields (out-Value v)

abbrev fields_in : List (Key × Value) → List Fields
fields_in es = each fields (each (λ (e : Key × Value). e.1) es)

abbrev document_texts : ListForm → List (Key × Value) → List ℕ
document_texts form es = flat_map (document_line form) (fields_in es)

same_documents : (form : ListForm) (es fs : List (Key × Value)) → each shown_document es ≡ each shown_document fs → (length (fields_in es) ≡ length (fields_in fs)) × (document_texts form es ≡ document_texts form fs)
same_documents form [] [] e = (refl, refl)
same_documents form [] (f ∷ fs) e = cc
same_documents form (x ∷ es) [] e = cc
same_documents form (x ∷ es) (f ∷ fs) e =
    let head : shown_document x ≡ shown_document f = cc in
    let tail : each shown_document es ≡ each shown_document fs = cc in
    let one : in_order (fields x.1) ≡ in_order (fields f.1) = sym (fields_ordered x.1) ∙ (ap (λ (z : Key × Value). fields z.1) head ∙ fields_ordered f.1) in
    let more = same_documents form es fs tail in
    (ap (λ (n : ℕ). suc n) more.0, λ i. line (codes "doc " ++ shown form (one i)) ++ more.1 i)

-- ---- indexes

abbrev definitions : List (Key × Tree) → List Tree
definitions es = each (λ (e : Key × Tree). e.1) es

abbrev told : Key × Tree → List Fields → Key × Option ℕ
told e ds = (e.0, number e.1 ds)

same_indexes : (es : List (Key × Tree)) (ds ks : List Fields) → numbers_of es ds ≡ numbers_of es ks → indexes_text ds (definitions es) ≡ indexes_text ks (definitions es)
same_indexes [] ds ks h = refl
same_indexes (e ∷ es) ds ks h =
    let head : told e ds ≡ told e ks = cc in
    let tail : numbers_of es ds ≡ numbers_of es ks = cc in
    let one : number e.1 ds ≡ number e.1 ks = ap (λ (z : Key × Option ℕ). z.1) head in
    λ i. index_line (one i) e.1 ++ same_indexes es ds ks tail i

-- ---- collections

same_collections : (form : ListForm) (n : NsName) (c k : Collection) → shown_collection c ≡ shown_collection k → numbers c ≡ numbers k → collection_text form n (Some c) ≡ collection_text form n (Some k)
same_collections form n c k e h =
    let options : c.options ≡ k.options = ap (λ (s : ShownCollection). s.options) e in
    let entries : map.entries c.indexes ≡ map.entries k.indexes = ap (λ (s : ShownCollection). s.indexes) e in
    let docs = same_documents form (map.entries c.documents) (map.entries k.documents) (ap (λ (s : ShownCollection). s.documents) e) in
    let indexes : indexes_text (documents c) (map.values c.indexes) ≡ indexes_text (documents k) (map.values k.indexes) =
    same_indexes (map.entries c.indexes) (documents c) (documents k) (h ∙ ap (λ es. numbers_of es (documents k)) (sym entries)) ∙ ap (λ es. indexes_text (documents k) (definitions es)) entries in
    λ i. head_text n.db n.coll (docs.0 i) (options i) ++ indexes i ++ docs.1 i

same_texts : (form : ListForm) (n : NsName) (o u : Option Collection) → option_map shown_collection o ≡ option_map shown_collection u → numbers_in o ≡ numbers_in u → collection_text form n o ≡ collection_text form n u
same_texts form n None None e h = refl
same_texts form n None (Some k) e h = cc
same_texts form n (Some c) None e h = cc
same_texts form n (Some c) (Some k) e h = same_collections form n c k (some_shown (shown_collection c) (shown_collection k) e) h

-- ---- states

abbrev counted : State → NsName → NsName × List (Key × Option ℕ)
counted s n = (n, numbers_in (map.get s n))

texts_among : (form : ListForm) (a b : State) → shown_state a ≡ shown_state b → (ns : List NsName) → each (counted a) ns ≡ each (counted b) ns →
    flat_map (λ n. collection_text form n (map.get a n)) ns ≡ flat_map (λ n. collection_text form n (map.get b n)) ns
texts_among form a b e [] h = refl
texts_among form a b e (n ∷ ns) h =
    let head : counted a n ≡ counted b n = cc in
    let tail : each (counted a) ns ≡ each (counted b) ns = cc in
    let one = same_texts form n (map.get a n) (map.get b n) (answers_on namespace_cmp shown_collection a b e n) (ap (λ (z : NsName × List (Key × Option ℕ)). z.1) head) in
    λ i. one i ++ texts_among form a b e ns tail i

pub listed_alike : (form : ListForm) (a b : State) → shown_state a ≡ shown_state b → counts a ≡ counts b → listing form a ≡ listing form b
listed_alike form a b e h =
    let names = same_names a b e in
    texts_among form a b e (map.keys a) (h ∙ ap (each (counted b)) (sym names)) ∙ ap (flat_map (λ n. collection_text form n (map.get b n))) names
