-- What `source` says of the ends, by its status.
use Rattle.std.specs.Prelude.{◌≡◌, ◌⊎◌, ℕ, List, [], Some, IfSome, Result, Ok, Err}
use Rattle.history_model.specs.Histories.{before, source}
use Rattle.schedule_text.specs.declared.schedule.Schedule.{Schedule}
use Rattle.schedule_text.specs.Reading.{Bad, schedule_of}
use Rattle.schedule_report.specs.Schedules.{schedule_in}
use Rattle.schedule_report.specs.Lines.{refusals_text}
use Rattle.state_listing.specs.Listing.{listing}
use Rattle.tools_words.specs.declared.order.SourceOrder.{SourceOrder}
use Rattle.tools_commands.specs.declared.status.Status.{Status}
use Rattle.tools_commands.specs.declared.status.Status.TheVariants as is
use Rattle.tools_commands.specs.Statuses.{Gives}
use Rattle.tools_commands.specs.Ends.{Turn, Same, Untouched, Failed, Writes, WritesFront}

-- What was read, where the input is known: all of it is this schedule, or it has this first bad line.

abbrev pub IsSchedule : Turn → Schedule → Type 0
IsSchedule input s = IfSome input.before.bytes (λ all. (schedule_of all ≡ Ok s) × (input.after.bytes ≡ Some []))

abbrev pub IsBad : Turn → Bad → Type 0
IsBad input bad = IfSome input.before.bytes (λ all. schedule_of all ≡ Err bad)

-- What is written of a schedule: the listing of the state just before the limit, and a line for each refused line up to where
-- the commands stop.

abbrev pub listed : SourceOrder → Schedule → List ℕ
listed order s = listing order.form (before (schedule_in s) order.limit)

abbrev pub refused : SourceOrder → Schedule → List ℕ
refused order s = refusals_text (source order.limit (schedule_in s)).refused

-- the output failed once all refusals were told, or the report did before anything was listed
abbrev pub Stopped : List ℕ → List ℕ → Turn → Turn → Type 0
Stopped shown refusals output report =
    (Failed output × WritesFront output shown × Writes report refusals) ⊎ (Failed report × Same output × WritesFront report refusals)

-- this listing and these refusals are due
abbrev pub Lists : List ℕ → List ℕ → Status → Turn → Turn → Type 0
Lists shown refusals is.Done output report = Writes output shown × Writes report refusals
Lists shown refusals is.WriteFault output report = Stopped shown refusals output report
Lists shown refusals is.NoMemory output report = WritesFront output shown × WritesFront report refusals
Lists shown refusals _ output report = ⊥

abbrev pub ScheduleSays : SourceOrder → Schedule → Status → Turn → Turn → Type 0
ScheduleSays order s status output report = Lists (listed order s) (refused order s) status output report

-- a schedule was read, and this became of it
abbrev pub Ran : SourceOrder → Status → Turn → Turn → Turn → Type 0
Ran order status input output report = (s : Schedule) × IsSchedule input s × ScheduleSays order s status output report

abbrev pub SourceSays : SourceOrder → Status → Turn → Turn → Turn → Type 0
SourceSays order is.Done input output report = Ran order is.Done input output report
SourceSays order (is.BadSchedule line kind) input output report = IsBad input (line, kind) × Same output × Untouched report
SourceSays order is.ReadFault input output report = Failed input × Same output × Untouched report
SourceSays order is.WriteFault input output report = Ran order is.WriteFault input output report
SourceSays order is.NoMemory input output report = (Same output × Untouched report) ⊎ Ran order is.NoMemory input output report
SourceSays order _ input output report = ⊥

-- the number of the status that is due for what the input reads as
abbrev pub reading_code : Result Schedule Bad → ℕ
reading_code (Ok s) = 0
reading_code (Err bad) = 2

pub record SourceAnswers (order : SourceOrder) (status : Status) (input output report : Turn) : Type 0 where
  pub says : SourceSays order status input output report
  pub due : (all : List ℕ) → input.before.bytes ≡ Some all → Gives status (reading_code (schedule_of all))
