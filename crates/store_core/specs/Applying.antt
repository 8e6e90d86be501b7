-- What a command makes of a store.
use Rattle.std.specs.Prelude.{⊤, ◌≡◌, ℕ, List, [], ◌∷◌, length, Option, Some, None, Result, Ok, Err}
use Rattle.schedule_model.specs.declared.command.Command.{Command}
use Rattle.schedule_model.specs.declared.command.Command.TheVariants.{At, Recording}
use Rattle.schedule_model.specs.declared.refused.Refused.{Refused}
use Rattle.history_model.specs.Entries.{Content, OplogEntry, entry_bytes}
use Rattle.history_model.specs.Stages.{Write, Single, Rename, Txn, Effect, Stage, Made, rows_by}
use Rattle.history_model.specs.Commands.{effects, applied}
use Rattle.store_log.specs.Logged.{Logged, next_ts, logged}
use Rattle.store_core.specs.declared.fault.StoreFault.{StoreFault}
use Rattle.store_core.specs.declared.fault.StoreFault.TheVariants as faults
use Rattle.store_core.specs.Stores.{Stored, StandsAt}

-- the entry of this content that is next
abbrev pub next_entry : Content → Logged → OplogEntry
next_entry c l = record { ts = next_ts l.clock l.newest; content = c }

-- a rename is noted
abbrev pub with_rename : Logged → Logged
with_rename l = record l { renamed = Some l.newest }

abbrev pub noted : Write → Logged → Logged
noted (Single w) l = l
noted (Rename a b) l = with_rename l
noted (Txn ws) l = l

-- what a write with what is recorded of it makes of a store
abbrev pub stored_by : Effect → Stored → Stored
stored_by d s = record { rows = rows_by d.0 s.rows; log = noted d.0 (logged (entry_bytes (next_entry d.1 s.log)) s.log) }

abbrev pub stored_after : List Effect → Stored → Stored
stored_after [] s = s
stored_after (d ∷ ds) s = stored_after ds (stored_by d s)

-- the stage of a store, but for the contents of its entries, on which no command depends
abbrev pub stage_in : Stored → Stage
stage_in s =
    record {
      rows = s.rows;
      clock = s.log.clock;
      form = s.log.form;
      newest = s.log.newest;
      renamed = s.log.renamed;
      oplog = [];
      caps = record { entries = s.log.ring.cap; bytes = s.log.ring.limit };
    }

-- clock and form as the command sets them
abbrev pub stored_set : Command → Stored → Stored
stored_set (At secs) s = record { rows = s.rows; log = record s.log { clock = secs } }
stored_set (Recording f) s = record { rows = s.rows; log = record s.log { form = f } }
stored_set _ s = s

-- these effects were made, or the row refuses the command and nothing has changed
pub record Makes (c : Command) (old : Stored) (n : ℕ) (new : Stored) : Type 0 where
  pub deeds : List Effect
  pub accepted : effects c (stage_in old) ≡ Ok deeds
  pub number : n ≡ length deeds
  pub made : new ≡ stored_after deeds (stored_set c old)

abbrev pub Refuses : Command → Stored → StoreFault → Type 0
Refuses c old (faults.Refused r) = effects c (stage_in old) ≡ Err r
Refuses c old faults.NoMemory = ⊤

abbrev pub Applies : Command → Stored → Result ℕ StoreFault → Stored → Type 0
Applies c old (Ok n) new = Makes c old n new
Applies c old (Err f) new = Refuses c old f × (new ≡ old)

-- the row, if there is one, as the answer of a test
abbrev pub refusal_or : Option Refused → Result (Unit {0}) StoreFault
refusal_or None = Ok _
refusal_or (Some r) = Err (faults.Refused r)

-- a command does what g makes of the answer, or it is refused
abbrev pub Decided : {A : Type 0} → Command → Stored → (A → List Effect) → Result A StoreFault → Type 0
Decided c s g (Ok a) = effects c (stage_in s) ≡ Ok (g a)
Decided c s g (Err f) = Refuses c s f

-- what the check of a command answers
pub record Accepts (c : Command) (s : Stored) (n : ℕ) : Type 0 where
  pub deeds : List Effect
  pub accepted : effects c (stage_in s) ≡ Ok deeds
  pub number : n ≡ length deeds

abbrev pub Checks : Command → Stored → Result ℕ StoreFault → Type 0
Checks c s (Ok n) = Accepts c s n
Checks c s (Err f) = Refuses c s f

-- ---- of a stage at which the store stands

-- the number of entries that are recorded, and the stage after the command
pub record AppliesAt (c : Command) (st : Stage) (n : ℕ) (new : Stored) : Type 0 where
  pub after : Stage
  pub made : List Made
  pub accepted : applied c st ≡ Ok (after, made)
  pub number : n ≡ length made
  pub stands : StandsAt new after

-- the first row that refuses the command; want of memory says nothing
abbrev pub RefusesAt : Command → Stage → StoreFault → Type 0
RefusesAt c st (faults.Refused r) = applied c st ≡ Err r
RefusesAt c st faults.NoMemory = ⊤

abbrev pub AppliedAt : Command → Stage → Result ℕ StoreFault → Stored → Type 0
AppliedAt c st (Ok n) new = AppliesAt c st n new
AppliedAt c st (Err f) new = RefusesAt c st f

-- the number of entries that a command would record
pub record AcceptsAt (c : Command) (st : Stage) (n : ℕ) : Type 0 where
  pub after : Stage
  pub made : List Made
  pub accepted : applied c st ≡ Ok (after, made)
  pub number : n ≡ length made

abbrev pub CheckedAt : Command → Stage → Result ℕ StoreFault → Type 0
CheckedAt c st (Ok n) = AcceptsAt c st n
CheckedAt c st (Err f) = RefusesAt c st f
