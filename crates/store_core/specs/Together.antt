-- What a transaction makes together.
use Rattle.std.specs.Prelude.{◌≡◌, ◌<◌, ◌^◌, List, [], ◌∷◌, map as each, length, Option, Some, None, Result, Ok, Err}
use Rattle.coll_state.specs.declared.change.Change.{Change}
use Rattle.coll_state.specs.ChangeAll.{AreThere, HaveIds, change_all}
use Rattle.coll_state.specs.Rows.{Rows}
use Rattle.schedule_model.specs.declared.command.Command.TheVariants.{Txn}
use Rattle.schedule_model.specs.declared.command.DocumentCommand.{DocumentCommand}
use Rattle.transactions.specs.declared.transaction.Transaction.{Transaction}
use Rattle.transactions.specs.Transactions.{AreGood, AreMade, write_of}
use Rattle.history_model.specs.Entries.{Item, Group, entry_bytes}
use Rattle.history_model.specs.Stages as stages
use Rattle.history_model.specs.Stages.{Effect}
use Rattle.history_model.specs.Commands.{RecordedWrite, changes_together, effects}
use Rattle.kept_indexes.specs.Kept.{KeptCollections, AreKept}
use Rattle.store_log.specs.Logged.{next_ts}
use Rattle.store_core.specs.Stores.{Stored}
use Rattle.store_core.specs.Applying.{next_entry, stage_in, Refuses}
use Rattle.store_core.specs.declared.fault.StoreFault.{StoreFault}
use Rattle.store_core.specs.declared.transaction.Group.{Group as Made}

-- what its commands make one after the other
pub record Trial (ds : List DocumentCommand) (s : Stored) (t : Transaction) : Type 0 where
  pub makes : List RecordedWrite
  pub accepted : changes_together s.log.form ds s.rows ≡ Ok makes
  pub made : AreMade (next_ts s.log.clock s.log.newest) t.changes t.entries makes
  pub there : AreThere t.changes s.rows.tables
  pub ids : HaveIds t.changes
  pub good : AreGood t.changes s.rows.tables

abbrev pub Tries : List DocumentCommand → Stored → Result Transaction StoreFault → Type 0
Tries ds s (Ok t) = Trial ds s t
Tries ds s (Err f) = Refuses (Txn ds) s f

-- the effect of a group of changes
abbrev pub group_effect : List Change → List Item → Effect
group_effect cs is = (stages.Txn (each write_of cs), Group is)

-- changes, with the bytes of the entry that records them, are what a transaction makes
pub record IsTogether (ds : List DocumentCommand) (s : Stored) (g : Made) : Type 0 where
  pub items : List Item
  pub accepted : effects (Txn ds) (stage_in s) ≡ Ok (group_effect g.changes items ∷ [])
  pub spelled : g.bytes ≡ entry_bytes (next_entry (Group items) s.log)
  pub there : AreThere g.changes s.rows.tables
  pub ids : HaveIds g.changes
  pub good : AreGood g.changes s.rows.tables
  pub few : length g.changes < 2 ^ 64

abbrev pub MakesTogether : List DocumentCommand → Stored → Result (Option Made) StoreFault → Type 0
MakesTogether ds s (Ok (Some g)) = IsTogether ds s g
MakesTogether ds s (Ok None) = effects (Txn ds) (stage_in s) ≡ Ok []
MakesTogether ds s (Err f) = Refuses (Txn ds) s f

-- the rows behind what a transaction makes
abbrev pub rows_changed : Option Made → Rows → Rows
rows_changed None r = r
rows_changed (Some g) r = change_all g.changes r

-- the indexes are those of the rows behind what was made, or on an error those of the rows as they are
abbrev pub AreKeptAfter : {A E : Type 0} → (A → Rows → Rows) → Result A E → KeptCollections → Rows → Type 0
AreKeptAfter f (Ok a) ks r = AreKept ks (f a r)
AreKeptAfter f (Err e) ks r = AreKept ks r

-- the rows behind the changes of a transaction
abbrev pub rows_behind : Transaction → Rows → Rows
rows_behind t r = change_all t.changes r
