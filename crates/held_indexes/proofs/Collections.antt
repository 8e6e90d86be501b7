-- Where the indexes of rows hold, the documents of each collection, in the order of their keys, have no fault.
use Rattle.std.proofs.Common.{◌≡◌, ℕ, List, [], ◌∷◌, map as each, Bool, true, false, cond, refl, sym, ap, ◌∙◌, subst, Option, Some, None, inl, inr}
use Rattle.std.specs.Prelude.{⊤, ◌&&◌, if◌then◌else◌, is_some, option_map}
use Rattle.std.specs.List.{list_any}
use Rattle.std.specs.FinMap as map
use Rattle.bson_value.specs.declared.namespace.NsName.{NsName}
use Rattle.bson_value.specs.declared.value.Value.{Value, Object}
use Rattle.bson_value.specs.declared.value.Value.TheVariants.{outs-Object}
use Rattle.json_tree.specs.declared.tree.Tree.{Tree}
use Rattle.state_model.specs.Keys.{Key, key_cmp, same_key}
use Rattle.state_model.specs.States.{State, Collection}
use Rattle.coll_state.specs.Rows.{Document, Row, Table, Rows, row_of, collection_of, state_of}
use Rattle.coll_state.proofs.Links.{get_collection, get_document}
use Rattle.index_keys.specs.declared.plan.Plan.{Plan}
use Rattle.index_keys.specs.Definition.{plan_of}
use Rattle.index_keys.specs.Keys.{parallel}
use Rattle.index_keys.specs.Texts.{key_texts}
use Rattle.index_build.specs.Documents.{fields, fields_at, documents}
use Rattle.index_build.specs.Faults.{share_a_key, first_parallel, duplicate, duplicate_if, or_else, parallel_fault, duplicate_fault, plan_fault, built_fault, definitions_fault, collection_fault, fault_among, fault}
use Rattle.index_build.specs.declared.fault.CountFault.{CountFault}
use Rattle.index_build.specs.Repeats.{first_where}
use Rattle.history_model.specs.Indexes.{IndexesOf, IndexesHold}
use Rattle.history_model.specs.Refusals.{meet, texts_in, clashes, unique_clash, any_parallel}
use Rattle.held_indexes.proofs.Risen.{Each, EachTwo, each_found, each_two}
use Rattle.held_indexes.proofs.Shared.{row_any, rows_apart, AllNew, Apart, no_repeat}

Documents : Type 0
Documents = map.FinMap key_cmp Value

-- ---- what is found under a key is the document of the row

no_value : (v : Value) → None ≡ Some v → ⊥
no_value v e = cc

object_is : (d : Document) (v : Value) → Some (Object d) ≡ Some v → fields v ≡ d
object_is d v e = (let f : Object d ≡ v = cc in ap fields (sym f) ∙ ap fields_at (outs-Object d))

-- a fact of the documents of rows holds of what is found
row_there : (t : Table) (k : Key) (v : Value) (P : Document → Type 0) → map.get (collection_of t).documents k ≡ Some v → ((r : Row) → row_of t.rows k ≡ Some r → P r.document) → P (fields v)
row_there t k v P e h = by (row_of t.rows k) refl (sym (get_document t k) ∙ e)
  where
    by : (o : Option Row) → row_of t.rows k ≡ o → option_map (λ (r : Row). Object r.document) o ≡ Some v → P (fields v)
    by None f g = absurd (no_value v g)
    by (Some r) f g = subst P (sym (object_is r.document v g)) (h r f)

-- ---- one index

none_where : (p : Document → Bool) (es : List (Key × Value)) → Each (λ k v. p (fields v) ≡ false) es → first_where p (each fields (each (λ (e : Key × Value). e.1) es)) ≡ None
none_where p [] h = refl
none_where p (e ∷ es) h = ap (λ (b : Bool). if b then Some (fields e.1) else first_where p (each fields (each (λ (x : Key × Value). x.1) es))) h.0 ∙ none_where p es h.1

new_behind : (plan : Plan) (d : Document) (es : List (Key × Value)) → Each (λ k v. share_a_key plan (fields v) d ≡ false) es → AllNew (share_a_key plan) (d ∷ []) (each fields (each (λ (e : Key × Value). e.1) es))
new_behind plan d [] h = tt
new_behind plan d (e ∷ es) h = (ap (λ (b : Bool). if b then Some d else None) h.0, new_behind plan d es h.1)

apart_all : (plan : Plan) (es : List (Key × Value)) → EachTwo (λ v w. share_a_key plan (fields w) (fields v) ≡ false) es → Apart (share_a_key plan) (each fields (each (λ (e : Key × Value). e.1) es))
apart_all plan [] h = tt
apart_all plan (e ∷ es) h = (new_behind plan (fields e.1) es h.0, apart_all plan es h.1)

-- a document in which no two fields meet an array has all its keys
texts_all : (plan : Plan) (r : Row) → is_some (parallel plan r.document) ≡ false → texts_in plan r ≡ key_texts plan r.document
texts_all plan r e = ap (λ (b : Bool). elim b [ true ↦ [] | false ↦ key_texts plan r.document ]) e

no_parallel : (t : Table) (plan : Plan) → any_parallel t.rows (Some plan) ≡ false → first_parallel plan (documents (collection_of t)) ≡ None
no_parallel t plan h =
    none_where (λ d. is_some (parallel plan d)) (map.entries (collection_of t).documents)
    (each_found (λ k v. is_some (parallel plan (fields v)) ≡ false) (map.entries (collection_of t).documents) (map.entries_sorted (collection_of t).documents)
    (λ k v f. row_there t k v (λ d. is_some (parallel plan d) ≡ false) (map.get-entries (collection_of t).documents k ∙ f)
    (λ r g. row_any (λ (x : Row). is_some (parallel plan x.document)) t.rows k r g h)))

two_apart : (t : Table) (plan : Plan) → any_parallel t.rows (Some plan) ≡ false → clashes plan t.rows ≡ false → (k q : Key) (v w : Value) → map.get (collection_of t).documents k ≡ Some v → map.get (collection_of t).documents q ≡ Some w → same_key q k ≡ false → share_a_key plan (fields w) (fields v) ≡ false
two_apart t plan h c k q v w e f d =
    row_there t k v (λ x. share_a_key plan (fields w) x ≡ false) e
    (λ r i. row_there t q w (λ x. share_a_key plan x r.document ≡ false) f
    (λ s j.
    (let a = texts_all plan r (row_any (λ (x : Row). is_some (parallel plan x.document)) t.rows k r i h) in
    let b = texts_all plan s (row_any (λ (x : Row). is_some (parallel plan x.document)) t.rows q s j h) in
    (λ n. meet (sym b n) (sym a n)) ∙ rows_apart plan t.rows k q r s i j d c)))

no_duplicate : (t : Table) (plan : Plan) → any_parallel t.rows (Some plan) ≡ false → clashes plan t.rows ≡ false → duplicate plan (documents (collection_of t)) ≡ None
no_duplicate t plan h c =
    no_repeat (share_a_key plan) (documents (collection_of t))
    (apart_all plan (map.entries (collection_of t).documents)
    (each_two (λ v w. share_a_key plan (fields w) (fields v) ≡ false) (map.entries (collection_of t).documents) (map.entries_sorted (collection_of t).documents)
    (λ k q v w f g d. two_apart t plan h c k q v w (map.get-entries (collection_of t).documents k ∙ f) (map.get-entries (collection_of t).documents q ∙ g) d)))

if_unique : (t : Table) (plan : Plan) (b : Bool) → (b && clashes plan t.rows) ≡ false → any_parallel t.rows (Some plan) ≡ false → duplicate_if b plan (documents (collection_of t)) ≡ None
if_unique t plan true c h = no_duplicate t plan h c
if_unique t plan false c h = refl

none_of_plan : (n : NsName) (i : Key) (t : Table) (o : Option Plan) → unique_clash t.rows o ≡ false → any_parallel t.rows o ≡ false → built_fault n i o (documents (collection_of t)) ≡ None
none_of_plan n i t None c h = refl
none_of_plan n i t (Some plan) c h =
    λ x. or_else (option_map (parallel_fault n i) (no_parallel t plan h x)) (option_map (duplicate_fault n i) (if_unique t plan plan.unique c h x))

-- ---- all indexes, all collections

none_of_definitions : (n : NsName) (ds : List Document) (es : List (Key × Tree)) → Each (λ i d. built_fault n i (plan_of d) ds ≡ None) es → definitions_fault n es ds ≡ None
none_of_definitions n ds [] h = refl
none_of_definitions n ds (e ∷ es) h = ap (λ (o : Option CountFault). or_else o (definitions_fault n es ds)) h.0 ∙ none_of_definitions n ds es h.1

none_of_table : (n : NsName) (t : Table) → IndexesOf t → definitions_fault n (map.entries t.indexes) (documents (collection_of t)) ≡ None
none_of_table n t h =
    none_of_definitions n (documents (collection_of t)) (map.entries t.indexes)
    (each_found (λ i d. built_fault n i (plan_of d) (documents (collection_of t)) ≡ None) (map.entries t.indexes) (map.entries_sorted t.indexes)
    (λ i d f. (let g = h i d (map.get-entries t.indexes i ∙ f) in none_of_plan n i t (plan_of d) g.0 g.1)))

none_of_collection : (r : Rows) (n : NsName) → IndexesHold r → collection_fault n (map.get (state_of r) n) ≡ None
none_of_collection r n h = ap (collection_fault n) (get_collection r n) ∙ by (map.get r.tables n) refl
  where
    by : (o : Option Table) → map.get r.tables n ≡ o → collection_fault n (option_map collection_of o) ≡ None
    by None e = refl
    by (Some t) e = none_of_table n t (h n t e)

none_among : (r : Rows) (ns : List NsName) → IndexesHold r → fault_among (state_of r) ns ≡ None
none_among r [] h = refl
none_among r (n ∷ ns) h = ap (λ (o : Option CountFault). or_else o (fault_among (state_of r) ns)) (none_of_collection r n h) ∙ none_among r ns h

pub held_are_faultless : (r : Rows) → IndexesHold r → fault (state_of r) ≡ None
held_are_faultless r h = none_among r (map.keys (state_of r)) h
