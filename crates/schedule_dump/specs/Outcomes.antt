-- What the run of a schedule with a dump comes to.
use Rattle.std.specs.Prelude.{ℕ, ◌≡◌, List, ◌++◌, length, Option, Some, None, Result, Ok, Err}
use Rattle.std.specs.Io.KnownBytes.{Appends}
use Rattle.tool_io.specs.Causes.{AppendsFront}
use Rattle.schedule_model.specs.declared.line.Line.{Line}
use Rattle.coll_state.specs.Rows.{state_of}
use Rattle.history_model.specs.Runs.{Schedule, Refusal, Done, Renamed, Rolled, run, window, entries_from}
use Rattle.history_model.specs.Histories.{before as state_before, moments, outcome, reads, documents_in, refusals, refusals_told}
use Rattle.dump_model.specs.Archives.{written}
use Rattle.dump_run.specs.declared.fault.DumpReport.{DumpReport}
use Rattle.dump_run.specs.Dumps.{Dumping, counted}
use Rattle.store_core.specs.Stores.{Stored}
use Rattle.schedule_report.specs.Lines.{refusals_text}
use Rattle.schedule_dump.specs.declared.fault.RunFault.{RunFault}
use Rattle.schedule_dump.specs.declared.fault.RunFault.TheVariants as faults
use Rattle.schedule_dump.specs.Progress.{Ends, DuringDump}

-- the moments of a schedule's dump, the number of documents that it read, and that of the entries in its window
pub record IsReport (report : DumpReport) (s : Schedule) : Type 0 where
  pub moments_are : moments s ≡ record { start = Some report.start; last_read = Some report.last_read; end_ts = Some report.end }
  pub documents : report.documents ≡ counted (documents_in (reads s))
  pub entries : report.entries ≡ counted (length (window report.start report.end (entries_from (run s))))

-- some first lines of those that are refused were told
abbrev pub TellsFirst : Schedule → Option (List ℕ) → Option (List ℕ) → Type 0
TellsFirst s before after = (first more : List (ℕ × Refusal)) × (refusals_told s ≡ first ++ more) × Appends before after (refusals_text first)

-- all that the dump writes was written, or some front of it, and so all lines that are told
abbrev pub WritesAll : Schedule → Ends → Ends → Type 0
WritesAll s before after = Appends before.output after.output (written s) × Appends before.report after.report (refusals_text (refusals_told s))

abbrev pub WritesFront : Schedule → Ends → Ends → Type 0
WritesFront s before after = AppendsFront before.output after.output (written s) × AppendsFront before.report after.report (refusals_text (refusals_told s))

abbrev pub Fails : RunFault → Schedule → Ends → Ends → Type 0
Fails (faults.Renamed ts) s before after = (outcome s ≡ Renamed ts) × WritesAll s before after
Fails (faults.Rolled start oldest) s before after = (outcome s ≡ Rolled start oldest) × WritesAll s before after
Fails faults.OutputFault s before after = AppendsFront before.output after.output (written s) × TellsFirst s before.report after.report
Fails faults.ReportFault s before after = WritesFront s before after
Fails faults.NoMemory s before after = WritesFront s before after

-- the dump came to its end: the archive is written, and each refused line is told
pub record Dumps (report : DumpReport) (s : Schedule) (before after : Ends) : Type 0 where
  pub done : outcome s ≡ Done
  pub reports : IsReport report s
  pub wrote : Appends before.output after.output (written s)
  pub told : Appends before.report after.report (refusals_text (refusals s))

-- the run goes on beside the dump, or has ended
abbrev pub RunsOn : Result (Unit {0}) RunFault → Schedule → Stored → Dumping → List (ℕ × Line) → Ends → Ends → Type 0
RunsOn (Ok u) s store dump rest before after = DuringDump s store dump rest before after
RunsOn (Err fault) s store dump rest before after = Fails fault s before after

-- the store has what all commands of the schedule made
abbrev pub IsSource : Stored → Schedule → Type 0
IsSource store s = state_of store.rows ≡ state_before s None

abbrev pub RunOutcome : Result (DumpReport × Stored) RunFault → Schedule → Ends → Ends → Type 0
RunOutcome (Ok (report, store)) s before after = Dumps report s before after × IsSource store s
RunOutcome (Err fault) s before after = Fails fault s before after
