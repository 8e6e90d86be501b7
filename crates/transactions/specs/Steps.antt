-- What one command of a transaction makes.
use Rattle.std.specs.Prelude.{◌≡◌, List, [], ◌∷◌, ◌++◌, Bool, true, Option, Some, None, Result, Ok, Err}
use Rattle.bson_value.specs.declared.namespace.NsName.{NsName}
use Rattle.bson_value.specs.declared.value.Value.{Object}
use Rattle.bson_value.specs.declared.value.Ts.{Ts}
use Rattle.bson_encode.specs.Key.{key_of}
use Rattle.doc_path.specs.declared.parts.Form.{Form}
use Rattle.coll_state.specs.declared.change.Change.{Change}
use Rattle.coll_state.specs.ChangeAll.{change_one}
use Rattle.coll_state.specs.Changes.{put_under}
use Rattle.coll_state.specs.Rows.{Document, Rows, id_of}
use Rattle.entry_model.specs.declared.entry.Entry.{Entry}
use Rattle.update_model.specs.declared.updated.Updated.{Updated}
use Rattle.update_model.specs.Equality.{same}
use Rattle.update_model.specs.Reading.{operators, ops_fault}
use Rattle.update_model.specs.Updating.{updated}
use Rattle.schedule_model.specs.declared.command.DocumentCommand.{DocumentCommand}
use Rattle.schedule_model.specs.declared.refused.Refused.{Refused}
use Rattle.history_model.specs.Commands.{document_changes}
use Rattle.history_model.specs.Entries.{Item, entry_with, item_entry}
use Rattle.history_model.specs.Refusals.{accepted, document_refusal}
use Rattle.transactions.specs.declared.change_record.ChangeRecord.{ChangeRecord}
use Rattle.transactions.specs.Transactions.{write_of, IsGood}

-- a document that is equal to the one that stands is no change; nor is one in whose place none stands
abbrev pub changes_nothing : Option Document → Document → Bool
changes_nothing None d = true
changes_nothing (Some old) d = same (Object old) (Object d)

-- what an update makes of the document that stands
abbrev pub update_made : Option Document → Document → Option Updated
update_made None ops = None
update_made (Some old) ops = accepted (ops_fault ops) (updated (operators ops) old)

-- a change that puts a document
pub record IsPut (c : Change) (n : NsName) (d : Document) (old new : Rows) : Type 0 where
  pub ns : c.ns ≡ n
  pub document : c.doc ≡ Some d
  pub id : id_of d ≡ Some c.id
  pub after : new ≡ put_under n (key_of c.id) d old

-- a command makes this change alone, with this entry
pub record IsMade (f : Form) (c : DocumentCommand) (x : ChangeRecord) (old new : Rows) : Type 0 where
  pub item : Item
  pub changes : document_changes f c old ≡ (write_of x.change, item) ∷ []
  pub entry : (ts : Ts) → item_entry ts item ≡ entry_with ts x.change.ns x.action
  pub good : IsGood x.change old.tables
  pub after : new ≡ change_one x.change old

-- a command is refused, or changes nothing, or makes a change
abbrev pub IsStep : Bool → Form → DocumentCommand → Result (Option ChangeRecord) Refused → Rows → Rows → Type 0
IsStep in_txn f c (Err e) old new = document_refusal in_txn c old ≡ Some e
IsStep in_txn f c (Ok None) old new = (document_refusal in_txn c old ≡ None) × (document_changes f c old ≡ []) × (new ≡ old)
IsStep in_txn f c (Ok (Some x)) old new = (document_refusal in_txn c old ≡ None) × IsMade f c x old new

-- a change and its entry stand behind others, if there is one
abbrev pub IsAppended : Ts → Option ChangeRecord → List Change → List Entry → List Change → List Entry → Type 0
IsAppended ts None changes entries more behind = (more ≡ changes) × (behind ≡ entries)
IsAppended ts (Some x) changes entries more behind = (more ≡ changes ++ x.change ∷ []) × (behind ≡ entries ++ entry_with ts x.change.ns x.action ∷ [])
