-- What a command makes: its first refusal, or its writes, each with what is recorded of it.
use Rattle.std.specs.Prelude.{ℕ, List, [], ◌∷◌, ◌++◌, map as each, Bool, true, false, ◌||◌, not, nat_lt, Option, Some, None, Result, Ok, Err}
use Rattle.std.specs.List.{list_any}
use Rattle.std.specs.FinMap as map
use Rattle.bson_value.specs.declared.namespace.NsName.{NsName}
use Rattle.bson_value.specs.declared.value.Value.{Value, Object}
use Rattle.bson_encode.specs.Key.{key_of}
use Rattle.doc_path.specs.declared.parts.Form.{Form}
use Rattle.json_tree.specs.declared.tree.Tree.{Tree}
use Rattle.state_model.specs.Keys.{Key, same_key}
use Rattle.coll_state.specs.Rows.{Document as Fields, Row, Rows, id_of}
use Rattle.update_model.specs.declared.updated.Updated.{Updated}
use Rattle.update_model.specs.Equality.{same}
use Rattle.schedule_model.specs.declared.command.DocumentCommand.{DocumentCommand}
use Rattle.schedule_model.specs.declared.command.DocumentCommand.TheVariants.{Insert, Replace, Update, Delete}
use Rattle.schedule_model.specs.declared.command.Command.{Command}
use Rattle.schedule_model.specs.declared.command.Command.TheVariants.{At, Recording, Create, DropColl, DropDatabase, Rename, Document, CreateIndex, DropIndex, Txn}
use Rattle.schedule_model.specs.declared.refused.Refused.{Refused}
use Rattle.schedule_model.specs.declared.refused.Refused.TheVariants.{NoSuchNamespace, NamespaceExists, NoSuchIndex, BadDocument, BadName, ClockBack, TooLarge}
use Rattle.copy_model.specs.Writes.{SingleWrite, change_rows}
use Rattle.copy_model.specs.Writes as writes
use Rattle.history_model.specs.Documents.{id_first, options_of, are_good_options, normal_of, is_bad_name}
use Rattle.history_model.specs.Entries.{Item, One, Group, content_size, update_item}
use Rattle.history_model.specs.Entries as entries
use Rattle.history_model.specs.Stages.{Single, Made, Stage, Effect, stage_after, made_in}
use Rattle.history_model.specs.Stages as stages
use Rattle.history_model.specs.Refusals.{is_there, row_at, definitions_in, in_database, update_of, first_of, document_rows, document_refusal, index_rows}

-- a single write, and the item that is recorded of it
abbrev pub RecordedWrite : Type 0
RecordedWrite = SingleWrite × Item

abbrev pub put_change : NsName → Value → Fields → Item → RecordedWrite
put_change n id d i = (writes.Put n (key_of id) d, i)

-- a document that is equal to the old one, order of fields included, is no write
abbrev pub unless_same : Fields → Fields → List RecordedWrite → List RecordedWrite
unless_same old new cs = elim (same (Object old) (Object new)) [ true ↦ [] | false ↦ cs ]

abbrev pub update_changes : Form → NsName → Value → Option Row → Option Updated → List RecordedWrite
update_changes f n id (Some row) (Some u) = unless_same row.document u.doc (put_change n id u.doc (update_item f n id u.doc u.touches) ∷ [])
update_changes f n id _ _ = []

abbrev pub replace_changes : NsName → Value → Fields → Option Row → List RecordedWrite
replace_changes n id d None = []
replace_changes n id d (Some row) = unless_same row.document d (put_change n id d (entries.Whole n id d) ∷ [])

-- a missing collection is made first, with options `{}`
abbrev pub insert_changes : Bool → NsName → Value → Fields → List RecordedWrite
insert_changes true n id d = put_change n id d (entries.Put n id d) ∷ []
insert_changes false n id d = (writes.Create n (options_of []), entries.Create n []) ∷ put_change n id d (entries.Put n id d) ∷ []

abbrev pub under_id : (Value → List RecordedWrite) → Option Value → List RecordedWrite
under_id g None = []
under_id g (Some id) = g id

-- of a command on a document that isn't refused
abbrev pub document_changes : Form → DocumentCommand → Rows → List RecordedWrite
document_changes f (Insert n d) r = under_id (λ id. insert_changes (is_there n r) n id (id_first d)) (id_of d)
document_changes f (Replace n d) r = under_id (λ id. replace_changes n id (id_first d) (row_at n (key_of id) r)) (id_of d)
document_changes f (Update n id ops) r = update_changes f n id (row_at n (key_of id) r) (update_of (row_at n (key_of id) r) ops)
document_changes f (Delete n id) r = (writes.Remove n (key_of id), entries.Remove n id) ∷ []

abbrev pub rows_of_changes : List RecordedWrite → Rows → Rows
rows_of_changes [] r = r
rows_of_changes (c ∷ cs) r = rows_of_changes cs (change_rows c.0 r)

-- ---- a transaction: its commands one after the other, each on the rows after those before it, and the first refusal

abbrev pub and_then : Option Refused → List RecordedWrite → Result (List RecordedWrite) Refused → Result (List RecordedWrite) Refused
and_then (Some x) cs rest = Err x
and_then None cs (Err x) = Err x
and_then None cs (Ok more) = Ok (cs ++ more)

abbrev pub changes_together : Form → List DocumentCommand → Rows → Result (List RecordedWrite) Refused
changes_together f [] r = Ok []
changes_together f (d ∷ ds) r =
    let cs = document_changes f d r in
    and_then (document_refusal true d r) cs (changes_together f ds (rows_of_changes cs r))

abbrev pub entry_limit : ℕ
entry_limit = 16793600

-- no write where the commands give none
abbrev pub group_of : List RecordedWrite → List Effect
group_of [] = []
group_of (c ∷ cs) = (stages.Txn (each (λ (x : RecordedWrite). x.0) (c ∷ cs)), Group (each (λ (x : RecordedWrite). x.1) (c ∷ cs))) ∷ []

abbrev pub is_too_large : List Effect → Bool
is_too_large [] = false
is_too_large (d ∷ ds) = nat_lt entry_limit (content_size d.1)

abbrev pub or_too_large : Bool → List Effect → Result (List Effect) Refused
or_too_large true ds = Err TooLarge
or_too_large false ds = Ok ds

abbrev pub grouped : Result (List RecordedWrite) Refused → Result (List Effect) Refused
grouped (Err x) = Err x
grouped (Ok cs) = or_too_large (is_too_large (group_of cs)) (group_of cs)

-- ---- each other command

-- an entry for each write
abbrev pub one_each : List RecordedWrite → List Effect
one_each cs = each (λ (c : RecordedWrite). (Single c.0, One c.1)) cs

abbrev pub only : SingleWrite → Item → List Effect
only w i = (Single w, One i) ∷ []

abbrev pub unless_refused : Option Refused → List Effect → Result (List Effect) Refused
unless_refused (Some x) ds = Err x
unless_refused None ds = Ok ds

abbrev pub has_definition : Key → List (Key × Tree) → Bool
has_definition k ds = list_any (λ (e : Key × Tree). same_key k e.0) ds

abbrev pub index_effects : NsName → Option Tree → List Effect
index_effects n None = []
index_effects n (Some d) = only (writes.AddIndex n d) (entries.AddIndex n d)

-- the rows of a command that is no transaction
abbrev pub command_rows : Command → Stage → List (Bool × Refused)
command_rows (At s) st = (nat_lt s st.clock, ClockBack) ∷ []
command_rows (Recording f) st = []
command_rows (Create n o) st = (is_there n st.rows, NamespaceExists) ∷ (not (are_good_options o), BadDocument) ∷ (is_bad_name n, BadName) ∷ []
command_rows (DropColl n) st = (not (is_there n st.rows), NoSuchNamespace) ∷ []
command_rows (DropDatabase db) st = (not (in_database db st.rows), NoSuchNamespace) ∷ []
command_rows (Rename a b) st = (not (is_there a st.rows), NoSuchNamespace) ∷ (is_there b st.rows, NamespaceExists) ∷ (is_bad_name b || not (same_key a.db b.db), BadName) ∷ []
command_rows (Document d) st = document_rows false d st.rows
command_rows (CreateIndex n d) st = index_rows n d st.rows
command_rows (DropIndex n k) st = (not (is_there n st.rows), NoSuchNamespace) ∷ (not (has_definition k (definitions_in (map.get st.rows.tables n))), NoSuchIndex) ∷ []
command_rows (Txn ds) st = []

-- what it makes where none of them holds
abbrev pub command_effects : Command → Stage → List Effect
command_effects (At s) st = []
command_effects (Recording f) st = []
command_effects (Create n o) st = only (writes.Create n (options_of o)) (entries.Create n o)
command_effects (DropColl n) st = only (writes.DropColl n) (entries.DropColl n)
command_effects (DropDatabase db) st = only (writes.DropDb db) (entries.DropDb db)
command_effects (Rename a b) st = (stages.Rename a b, entries.Rename a b) ∷ []
command_effects (Document d) st = one_each (document_changes st.form d st.rows)
command_effects (CreateIndex n d) st = index_effects n (normal_of d)
command_effects (DropIndex n k) st = only (writes.DropIndex n k) (entries.DropIndex n k)
command_effects (Txn ds) st = []

-- the writes that a command makes on a stage, each with what is recorded of it, or the first row that refuses it
abbrev pub effects : Command → Stage → Result (List Effect) Refused
effects (Txn ds) st = grouped (changes_together st.form ds st.rows)
effects c st = unless_refused (first_of (command_rows c st)) (command_effects c st)

-- clock and form as the command sets them
abbrev pub set_by : Command → Stage → Stage
set_by (At s) st = record st { clock = s }
set_by (Recording f) st = record st { form = f }
set_by _ st = st

abbrev pub answered : Stage → Result (List Effect) Refused → Result (Stage × List Made) Refused
answered st (Err x) = Err x
answered st (Ok ds) = Ok (stage_after ds st, made_in ds st)

-- the stage after a command and what it made, or why it is refused
abbrev pub applied : Command → Stage → Result (Stage × List Made) Refused
applied c st = answered (set_by c st) (effects c st)
