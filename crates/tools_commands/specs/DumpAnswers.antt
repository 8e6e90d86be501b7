-- What `dump` says of the ends, by its status.
use Rattle.std.specs.Prelude.{◌≡◌, ◌⊎◌, ℕ, List, ◌++◌, Some, Result, Ok, Err}
use Rattle.bson_value.specs.declared.value.Ts.{Ts}
use Rattle.history_model.specs.Runs.{Schedule, Outcome, Done, Renamed, Rolled}
use Rattle.history_model.specs.Histories.{outcome, refusals, refusals_told}
use Rattle.dump_model.specs.Archives.{written}
use Rattle.dump_run.specs.declared.fault.DumpReport.{DumpReport}
use Rattle.schedule_text.specs.declared.schedule.Schedule.{Schedule as Text}
use Rattle.schedule_text.specs.Reading.{Bad, schedule_of}
use Rattle.schedule_report.specs.Schedules.{schedule_in}
use Rattle.schedule_report.specs.Lines.{refusals_text}
use Rattle.schedule_dump.specs.Outcomes.{IsReport, TellsFirst}
use Rattle.schedule_dump.specs.Texts.{report_line}
use Rattle.tools_commands.specs.declared.status.Status.{Status}
use Rattle.tools_commands.specs.declared.status.Status.TheVariants as is
use Rattle.tools_commands.specs.Statuses.{Gives}
use Rattle.tools_commands.specs.Ends.{Turn, Same, Untouched, Failed, Writes, WritesFront}
use Rattle.tools_commands.specs.SourceAnswers.{IsSchedule, IsBad}

-- What is told.

-- of a dump that came to its end: each refused line, then its moments and counts
abbrev pub IsTold : Schedule → List ℕ → Type 0
IsTold s text = (report : DumpReport) × (outcome s ≡ Done) × IsReport report s × (text ≡ refusals_text (refusals s) ++ report_line report)

abbrev pub TellsAll : Schedule → Turn → Type 0
TellsAll s report = (text : List ℕ) × IsTold s text × Writes report text

abbrev pub TellsFront : Schedule → Turn → Type 0
TellsFront s report = (text : List ℕ) × IsTold s text × WritesFront report text

-- each line that was refused up to the step that fails, where one does
abbrev pub told : Schedule → List ℕ
told s = refusals_text (refusals_told s)

-- What is written, and told beside it.

-- a dump that failed with this outcome
abbrev pub Stops : Schedule → Outcome → Turn → Turn → Type 0
Stops s o output report = (outcome s ≡ o) × Writes output (written s) × Writes report (told s)

-- the output failed; or the report did, while lines ran or behind the end of the archive
abbrev pub Breaks : Schedule → Turn → Turn → Type 0
Breaks s output report =
    (Failed output × WritesFront output (written s) × TellsFirst s report.before.bytes report.after.bytes)
    ⊎ ((Failed report × WritesFront output (written s) × WritesFront report (told s))
    ⊎ (Failed report × Writes output (written s) × TellsFront s report))

-- there was no memory, while lines ran or behind the end of the archive
abbrev pub RunsOut : Schedule → Turn → Turn → Type 0
RunsOut s output report = (WritesFront output (written s) × WritesFront report (told s)) ⊎ (Writes output (written s) × TellsFront s report)

abbrev pub ScheduleSays : Schedule → Status → Turn → Turn → Type 0
ScheduleSays s is.Done output report = Writes output (written s) × TellsAll s report
ScheduleSays s (is.Rolled start oldest) output report = Stops s (Rolled start oldest) output report
ScheduleSays s (is.Renamed ts) output report = Stops s (Renamed ts) output report
ScheduleSays s is.WriteFault output report = Breaks s output report
ScheduleSays s is.NoMemory output report = RunsOut s output report
ScheduleSays s _ output report = ⊥

-- a schedule was read, and this became of it
abbrev pub Ran : Status → Turn → Turn → Turn → Type 0
Ran status input output report = (s : Text) × IsSchedule input s × ScheduleSays (schedule_in s) status output report

abbrev pub DumpSays : Status → Turn → Turn → Turn → Type 0
DumpSays is.Done input output report = Ran is.Done input output report
DumpSays (is.BadSchedule line kind) input output report = IsBad input (line, kind) × Same output × Untouched report
DumpSays (is.Rolled start oldest) input output report = Ran (is.Rolled start oldest) input output report
DumpSays (is.Renamed ts) input output report = Ran (is.Renamed ts) input output report
DumpSays is.ReadFault input output report = Failed input × Same output × Untouched report
DumpSays is.WriteFault input output report = Ran is.WriteFault input output report
DumpSays is.NoMemory input output report = (Same output × Untouched report) ⊎ Ran is.NoMemory input output report
DumpSays _ input output report = ⊥

-- the number of the status that is due for what the input reads as
abbrev pub outcome_code : Outcome → ℕ
outcome_code Done = 0
outcome_code (Rolled start oldest) = 4
outcome_code (Renamed ts) = 5

abbrev pub dump_code : Result Text Bad → ℕ
dump_code (Ok s) = outcome_code (outcome (schedule_in s))
dump_code (Err bad) = 2

pub record DumpAnswers (status : Status) (input output report : Turn) : Type 0 where
  pub says : DumpSays status input output report
  pub due : (all : List ℕ) → input.before.bytes ≡ Some all → Gives status (dump_code (schedule_of all))
