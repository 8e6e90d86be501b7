-- What a command makes up to a limit.
use Rattle.std.specs.Prelude.{⊤, ◌≡◌, suc, List, [], filter, Bool, true, false, Option, Result, Ok, Err}
use Rattle.bson_value.specs.declared.value.Ts.{Ts}
use Rattle.coll_state.specs.Rows.{state_of}
use Rattle.bson_value.specs.declared.namespace.NsName.{NsName}
use Rattle.coll_state.specs.Rows.{Document as Fields}
use Rattle.copy_model.specs.Writes.{Create}
use Rattle.schedule_model.specs.declared.command.Command.{Command}
use Rattle.schedule_model.specs.declared.command.Command.TheVariants.{Document}
use Rattle.schedule_model.specs.declared.command.DocumentCommand.TheVariants.{Insert}
use Rattle.history_model.specs.Documents.{options_of}
use Rattle.history_model.specs.Refusals.{is_there}
use Rattle.history_model.specs.Stages.{Single, Stage, Made, changed_by}
use Rattle.history_model.specs.Commands.{applied}
use Rattle.history_model.specs.Histories.{is_before, all_before, history_of, state_from}
use Rattle.store_core.specs.declared.fault.StoreFault.{StoreFault}
use Rattle.store_core.specs.declared.fault.StoreFault.TheVariants as faults
use Rattle.store_core.specs.Stores.{Stored, StandsAt}

-- the moment behind another one, of the same second
abbrev pub second : Ts → Ts
second ts = record { secs = ts.secs; inc = suc ts.inc }

-- what a command would make on a stage
pub record Would (c : Command) (st : Stage) : Type 0 where
  pub after : Stage
  pub made : List Made
  pub accepted : applied c st ≡ Ok (after, made)

abbrev pub made_before : Option Ts → List Made → List Made
made_before l ms = filter (λ (m : Made). is_before l m.ts) ms

-- all of it was made, and all of that is before the limit
pub record RunsWhole (l : Option Ts) (c : Command) (st : Stage) (old new : Stored) : Type 0 where
  pub would : Would c st
  pub earlier : all_before l would.made ≡ true
  pub stands : StandsAt new would.after
  pub makes : state_of new.rows ≡ state_from (state_of old.rows) (history_of would.made)

-- not all of it is before the limit, and what is was made
pub record RunsInPart (l : Option Ts) (c : Command) (st : Stage) (old new : Stored) : Type 0 where
  pub would : Would c st
  pub later : all_before l would.made ≡ false
  pub makes : state_of new.rows ≡ state_from (state_of old.rows) (history_of (made_before l would.made))

abbrev pub RunsBefore : Option Ts → Command → Stage → Stored → Result Bool StoreFault → Stored → Type 0
RunsBefore l c st old (Ok true) new = RunsWhole l c st old new
RunsBefore l c st old (Ok false) new = RunsInPart l c st old new
RunsBefore l c st old (Err (faults.Refused r)) new = (applied c st ≡ Err r) × (new ≡ old)
RunsBefore l c st old (Err faults.NoMemory) new = ⊤

-- the creation alone, of an insert into a collection that isn't there
pub record CreatesAlone (c : Command) (old new : Stored) : Type 0 where
  pub ns : NsName
  pub doc : Fields
  pub inserts : c ≡ Document (Insert ns doc)
  pub missing : is_there ns old.rows ≡ false
  pub makes : state_of new.rows ≡ changed_by (Single (Create ns (options_of []))) (state_of old.rows)
