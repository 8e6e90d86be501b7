-- The rows of refusals, each by its condition, in their order.
use Rattle.std.specs.Prelude.{ℕ, List, [], ◌∷◌, Bool, true, false, ◌&&◌, ◌||◌, not, nat_le, Option, Some, None, is_some, length, codes, Result, Ok, Err}
use Rattle.std.specs.List.{list_any}
use Rattle.std.specs.Str.{bytes_eq}
use Rattle.std.specs.FinMap as map
use Rattle.bson_value.specs.declared.namespace.NsName.{NsName}
use Rattle.bson_value.specs.declared.value.Value.{Value}
use Rattle.bson_encode.specs.Key.{key_of}
use Rattle.json_tree.specs.declared.tree.Tree.{Tree}
use Rattle.state_model.specs.Keys.{Key, same_key}
use Rattle.coll_state.specs.Rows.{Document as Fields, Row, Rows, Table, row_of, id_of}
use Rattle.coll_state.specs.Changes.{put_row}
use Rattle.index_keys.specs.declared.plan.Plan.{Plan}
use Rattle.index_keys.specs.Definition.{plan_of}
use Rattle.index_keys.specs.Keys.{parallel}
use Rattle.index_keys.specs.Texts.{key_texts}
use Rattle.update_model.specs.declared.fault.OpsFault.{OpsFault}
use Rattle.update_model.specs.declared.fault.UpdateFault.{UpdateFault}
use Rattle.update_model.specs.declared.updated.Updated.{Updated}
use Rattle.update_model.specs.Reading.{operators, ops_fault}
use Rattle.update_model.specs.Updating.{updated}
use Rattle.schedule_model.specs.declared.command.DocumentCommand.{DocumentCommand}
use Rattle.schedule_model.specs.declared.command.DocumentCommand.TheVariants.{Insert, Replace, Update, Delete}
use Rattle.schedule_model.specs.declared.refused.Refused.{Refused}
use Rattle.schedule_model.specs.declared.refused.Refused.TheVariants.{NoSuchNamespace, DuplicateId, NoSuchDocument, DuplicateKey, ParallelArrays, IndexExists, BadDocument, BadUpdate, BadName, TooManyIndexes}
use Rattle.history_model.specs.Documents.{id_first, is_good_document, normal_of, name_of, is_good_definition, is_bad_name}

-- ---- what stands

abbrev pub is_there : NsName → Rows → Bool
is_there n r = is_some (map.get r.tables n)

abbrev pub row_in : Key → Option Table → Option Row
row_in k None = None
row_in k (Some t) = row_of t.rows k

abbrev pub row_at : NsName → Key → Rows → Option Row
row_at n k r = row_in k (map.get r.tables n)

-- the document with the `_id` of a document; one without an `_id` names none
abbrev pub row_named : NsName → Option Value → Rows → Option Row
row_named n None r = None
row_named n (Some id) r = row_at n (key_of id) r

abbrev pub definitions_in : Option Table → List (Key × Tree)
definitions_in None = []
definitions_in (Some t) = map.entries t.indexes

abbrev pub rows_in : Option Table → List Row
rows_in None = []
rows_in (Some t) = t.rows

abbrev pub in_database : List ℕ → Rows → Bool
in_database db r = list_any (λ (e : NsName × Table). same_key e.0.db db) (map.entries r.tables)

-- ---- what an update makes of the document that stands, where neither the operators nor the update are refused

abbrev pub accepted : Option OpsFault → Result Updated UpdateFault → Option Updated
accepted None (Ok u) = Some u
accepted None (Err e) = None
accepted (Some f) u = None

abbrev pub update_of : Option Row → Fields → Option Updated
update_of None ops = None
update_of (Some row) ops = accepted (ops_fault ops) (updated (operators ops) row.document)

-- ---- the rows of a collection after a command on a document; none where it has no document after it

abbrev pub with_document : Option Value → Fields → List Row → Option (List Row)
with_document None d rs = None
with_document (Some id) d rs = Some (put_row 0 (key_of id) d rs)

abbrev pub with_update : Value → Option Updated → List Row → Option (List Row)
with_update id None rs = None
with_update id (Some u) rs = Some (put_row 0 (key_of id) u.doc rs)

abbrev pub with_good : Bool → Fields → List Row → Option (List Row)
with_good true d rs = with_document (id_of d) (id_first d) rs
with_good false d rs = None

abbrev pub rows_with : DocumentCommand → Rows → Option (List Row)
rows_with (Insert n d) r = with_good (is_good_document d) d (rows_in (map.get r.tables n))
rows_with (Replace n d) r = with_good (is_good_document d) d (rows_in (map.get r.tables n))
rows_with (Update n id ops) r = with_update id (update_of (row_at n (key_of id) r) ops) (rows_in (map.get r.tables n))
rows_with (Delete n id) r = None

abbrev pub namespace_of : DocumentCommand → NsName
namespace_of (Insert n d) = n
namespace_of (Replace n d) = n
namespace_of (Update n id ops) = n
namespace_of (Delete n id) = n

-- ---- indexes

-- the keys of a built index as texts. A document in which two of its fields meet an array has none
abbrev pub texts_in : Plan → Row → List (List ℕ)
texts_in plan row = elim (is_some (parallel plan row.document)) [ true ↦ [] | false ↦ key_texts plan row.document ]

abbrev pub meet : List (List ℕ) → List (List ℕ) → Bool
meet ts us = list_any (λ t. list_any (bytes_eq t) us) ts

-- two of the documents have a key in common
abbrev pub clashes : Plan → List Row → Bool
clashes plan [] = false
clashes plan (r ∷ rs) = list_any (λ s. meet (texts_in plan r) (texts_in plan s)) rs || clashes plan rs

-- an index that isn't built refuses nothing
abbrev pub unique_clash : List Row → Option Plan → Bool
unique_clash rs None = false
unique_clash rs (Some plan) = plan.unique && clashes plan rs

abbrev pub any_parallel : List Row → Option Plan → Bool
any_parallel rs None = false
any_parallel rs (Some plan) = list_any (λ (r : Row). is_some (parallel plan r.document)) rs

abbrev pub any_definition : (List Row → Option Plan → Bool) → Option (List Row) → List (Key × Tree) → Bool
any_definition test None ds = false
any_definition test (Some rs) ds = list_any (λ (e : Key × Tree). test rs (plan_of e.1)) ds

abbrev pub plan_in : Option Tree → Option Plan
plan_in None = None
plan_in (Some t) = plan_of t

-- ---- the conditions. In a transaction an insert makes no namespace

abbrev pub makes : Bool → DocumentCommand → Bool
makes in_txn (Insert n d) = not in_txn
makes in_txn _ = false

abbrev pub is_duplicate : DocumentCommand → Rows → Bool
is_duplicate (Insert n d) r = is_some (row_named n (id_of d) r)
is_duplicate _ r = false

abbrev pub is_missing : DocumentCommand → Rows → Bool
is_missing (Insert n d) r = false
is_missing (Replace n d) r = is_some (id_of d) && not (is_some (row_named n (id_of d) r))
is_missing (Update n id ops) r = not (is_some (row_at n (key_of id) r))
is_missing (Delete n id) r = not (is_some (row_at n (key_of id) r))

abbrev pub is_bad_document : DocumentCommand → Bool
is_bad_document (Insert n d) = not (is_good_document d)
is_bad_document (Replace n d) = not (is_good_document d)
is_bad_document _ = false

abbrev pub is_bad_update : DocumentCommand → Rows → Bool
is_bad_update (Update n id ops) r = not (is_some (update_of (row_at n (key_of id) r) ops))
is_bad_update _ r = false

-- the first row of a list whose condition holds
abbrev pub first_of : List (Bool × Refused) → Option Refused
first_of [] = None
first_of (e ∷ es) = elim e.0 [ true ↦ Some e.1 | false ↦ first_of es ]

-- of a command on a document, alone or in a transaction
abbrev pub document_rows : Bool → DocumentCommand → Rows → List (Bool × Refused)
document_rows in_txn c r =
    let n = namespace_of c in
    let missing = not (is_there n r) in
    let after = rows_with c r in
    let ds = definitions_in (map.get r.tables n) in
    (missing && not (makes in_txn c), NoSuchNamespace)
    ∷ (is_duplicate c r, DuplicateId)
    ∷ (is_missing c r, NoSuchDocument)
    ∷ (any_definition unique_clash after ds, DuplicateKey)
    ∷ (any_definition any_parallel after ds, ParallelArrays)
    ∷ (is_bad_document c, BadDocument)
    ∷ (is_bad_update c r, BadUpdate)
    ∷ (missing && is_bad_name n, BadName)
    ∷ []

abbrev pub document_refusal : Bool → DocumentCommand → Rows → Option Refused
document_refusal in_txn c r = first_of (document_rows in_txn c r)

-- the name of a definition, if it has one, is there already
abbrev pub name_there : Option Key → List (Key × Tree) → Bool
name_there None ds = false
name_there (Some k) ds = same_key k (codes "_id_") || list_any (λ (e : Key × Tree). same_key k e.0) ds

-- of a definition
abbrev pub index_rows : NsName → Fields → Rows → List (Bool × Refused)
index_rows n d r =
    let ds = definitions_in (map.get r.tables n) in
    let rs = rows_in (map.get r.tables n) in
    (not (is_there n r), NoSuchNamespace)
    ∷ (is_good_definition d && unique_clash rs (plan_in (normal_of d)), DuplicateKey)
    ∷ (is_good_definition d && any_parallel rs (plan_in (normal_of d)), ParallelArrays)
    ∷ (name_there (name_of d) ds, IndexExists)
    ∷ (not (is_good_definition d), BadDocument)
    ∷ (nat_le 63 (length ds), TooManyIndexes)
    ∷ []
