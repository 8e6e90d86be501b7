-- A schedule that is run as it is read.
use Rattle.std.specs.Prelude.{⊤, ◌≡◌, ℕ, List, [], Option, Some, Ok, Err, IfSome}
use Rattle.bson_value.specs.declared.value.Ts.{Ts}
use Rattle.tool_io.specs.Causes.{Rose}
use Rattle.tool_io.specs.Ends.{End}
use Rattle.schedule_text.specs.declared.schedule.Schedule.{Schedule}
use Rattle.schedule_text.specs.Reading.{schedule_of}
use Rattle.schedule_input.specs.declared.fault.InputFault.{InputFault}
use Rattle.schedule_input.specs.declared.fault.InputFault.TheVariants as faults
use Rattle.schedule_report.specs.Schedules.{schedule_in}
use Rattle.schedule_source.specs.declared.run.SourceRun.{SourceRun}
use Rattle.schedule_source.specs.Progress.{Makes}

-- the run of a schedule: where the input is known, it is that schedule, and all of it was read
pub record RunsInput (l : Option Ts) (r : SourceRun) (before after : Option (List ℕ)) : Type 0 where
  pub schedule : Schedule
  pub is : IfSome before (λ all. schedule_of all ≡ Ok schedule)
  pub whole : IfSome before (λ all. after ≡ Some [])
  pub makes : Makes l (schedule_in schedule) r

-- of an input that was these bytes: its first bad line, a read that failed, or no memory
abbrev pub FailsLater : InputFault → Option (List ℕ) → ℕ → ℕ → Type 0
FailsLater (faults.Bad number kind) all before after = IfSome all (λ bytes. schedule_of bytes ≡ Err (number, kind))
FailsLater faults.ReadFault all before after = Rose before after
FailsLater faults.NoMemory all before after = ⊤

abbrev pub FailsInput : InputFault → End → End → Type 0
FailsInput fault before after = FailsLater fault before.bytes before.faults after.faults
