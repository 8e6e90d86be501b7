-- A transaction while its commands are made, on other rows than those that it is for.
use Rattle.std.specs.Prelude.{⊤, ◌≡◌, ◌≤◌, List, length, true, false, Option, Some, None, Result, Ok, Err}
use Rattle.bson_value.specs.declared.namespace.NsName.{NsName}
use Rattle.bson_value.specs.declared.value.Ts.{Ts}
use Rattle.doc_path.specs.declared.parts.Form.{Form}
use Rattle.state_model.specs.Keys.{same_ns}
use Rattle.coll_state.specs.ChangeAll.{HasId, change_one, change_all}
use Rattle.coll_state.specs.Rows.{Rows, AreSound}
use Rattle.schedule_model.specs.declared.command.DocumentCommand.{DocumentCommand}
use Rattle.schedule_model.specs.declared.refused.Refused.{Refused}
use Rattle.history_model.specs.Commands.{changes_together}
use Rattle.history_model.specs.Indexes.{IndexesHold}
use Rattle.command_refusals.specs.Keyed.{AreKeyed}
use Rattle.kept_indexes.specs.Kept.{KeptCollections, AreKept}
use Rattle.transaction_indexes.specs.Following.{HaveIndexes, Passes}
use Rattle.transactions.specs.declared.change_record.ChangeRecord.{ChangeRecord}
use Rattle.transactions.specs.declared.transaction.Transaction.{Transaction}
use Rattle.transactions.specs.Scratch.{HaveNoIndexes}
use Rattle.transactions.specs.Shown.{ShowAll}
use Rattle.transactions.specs.Steps.{IsStep}
use Rattle.transactions.specs.Transactions.{Answers, AreGood}

-- the indexes of these rows are kept, and other rows, which have none, show the commands their documents
pub record Stands (cs : List DocumentCommand) (shown : Rows) (ks : KeptCollections) (r : Rows) : Type 0 where
  pub sound : AreSound r
  pub keyed : AreKeyed r
  pub hold : IndexesHold r
  pub kept : AreKept ks r
  pub taken : HaveIndexes cs ks r
  pub sound_too : AreSound shown
  pub plain : HaveNoIndexes shown
  pub shows : ShowAll cs shown r

-- ---- what the indexes say of an answer

-- its change puts a document under its own `_id`
abbrev pub NamesItsId : Result (Option ChangeRecord) Refused → Type 0
NamesItsId (Ok (Some x)) = HasId x.change.id x.change.doc
NamesItsId (Ok None) = ⊤
NamesItsId (Err e) = ⊤

-- its change is of another collection
abbrev pub IsElsewhere : Result (Option ChangeRecord) Refused → NsName → Type 0
IsElsewhere (Ok (Some x)) n = same_ns x.change.ns n ≡ false
IsElsewhere (Ok None) n = ⊤
IsElsewhere (Err e) n = ⊤

-- they refuse its change, or follow it
abbrev pub IsTested : Result (Option ChangeRecord) Refused → KeptCollections → Option Refused → KeptCollections → Type 0
IsTested (Ok (Some x)) old o new = Passes x.change old o new
IsTested (Ok None) old o new = (o ≡ None) × (new ≡ old)
IsTested (Err e) old o new = (o ≡ None) × (new ≡ old)

-- an answer, unless the indexes refuse its change
abbrev pub settled : {E : Type 0} → Result (Option ChangeRecord) Refused → Result (Option Refused) E → Result (Result (Option ChangeRecord) Refused) E
settled a (Ok None) = Ok a
settled a (Ok (Some e)) = Ok (Err e)
settled a (Err x) = Err x

-- ---- a command

-- the rows behind an answer
abbrev pub rows_after : Result (Option ChangeRecord) Refused → Rows → Rows
rows_after (Ok (Some x)) r = change_one x.change r
rows_after (Ok None) r = r
rows_after (Err e) r = r

-- the answer is that of the rows; the other commands stand behind it, or it is a refusal, and the indexes are still those of the rows
unfoldable pub Proceeds : Form → DocumentCommand → List DocumentCommand → Result (Option ChangeRecord) Refused → Rows → KeptCollections → Rows → Type 0
Proceeds f c cs (Ok o) shown ks r = IsStep true f c (Ok o) r (rows_after (Ok o) r) × Stands cs shown ks (rows_after (Ok o) r)
Proceeds f c cs (Err e) shown ks r = IsStep true f c (Err e) r r × AreKept ks r

-- ---- all commands

-- the answer is that of the rows, and the indexes are those behind its changes, or behind a refusal those of the rows
unfoldable pub Runs : Ts → Form → List DocumentCommand → Result Transaction Refused → KeptCollections → Rows → Type 0
Runs ts f cs (Ok t) ks r = Answers ts (Ok t) (changes_together f cs r) × AreGood t.changes r.tables × (length t.changes ≤ length cs) × AreKept ks (change_all t.changes r)
Runs ts f cs (Err e) ks r = Answers ts (Err e) (changes_together f cs r) × AreKept ks r
