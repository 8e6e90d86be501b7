-- What a line makes of a store and of the report.
use Rattle.std.specs.Prelude.{⊤, ℕ, ◌≡◌, List, ◌++◌, Option, Result, Ok, Err}
use Rattle.std.specs.Io.KnownBytes.{Appends}
use Rattle.tool_io.specs.Causes.{AppendsFront}
use Rattle.schedule_model.specs.declared.line.Line.{Line}
use Rattle.history_model.specs.Runs.{Run, Refusal, NotNow, NoCursor, after_line}
use Rattle.dump_run.specs.declared.fault.DumpFault.{DumpFault}
use Rattle.dump_run.specs.declared.fault.DumpFault.TheVariants as steps
use Rattle.store_core.specs.Stores.{Stored, StandsAt}
use Rattle.schedule_report.specs.Lines.{refusal_line, refusals_text}
use Rattle.schedule_dump.specs.declared.fault.RunFault.{RunFault}
use Rattle.schedule_dump.specs.declared.fault.RunFault.TheVariants as faults

-- a fault of the report, or of memory
abbrev pub IsOfReport : RunFault → Type 0
IsOfReport faults.ReportFault = ⊤
IsOfReport faults.NoMemory = ⊤
IsOfReport _ = ⊥

-- the line is told where it is refused on this run, or some front of that is
abbrev pub Tells : ℕ × Line → Run → Option (List ℕ) → Option (List ℕ) → Type 0
Tells line r before after = (now : List (ℕ × Refusal)) × ((after_line line r).refused ≡ r.refused ++ now) × Appends before after (refusals_text now)

abbrev pub TellsFront : ℕ × Line → Run → Option (List ℕ) → Option (List ℕ) → Type 0
TellsFront line r before after = (now : List (ℕ × Refusal)) × ((after_line line r).refused ≡ r.refused ++ now) × AppendsFront before after (refusals_text now)

-- the store stands where the line leads from this run
abbrev pub Runs : ℕ × Line → Run → Stored → Option (List ℕ) → Option (List ℕ) → Type 0
Runs line r store before after = StandsAt store (after_line line r).stage × Tells line r before after

-- a command is run, or told where it is refused; where that fails, the report has some front of it
abbrev pub Commands : ℕ × Line → Result (Unit {0}) RunFault → Stored → Stored → Option (List ℕ) → Option (List ℕ) → Type 0
Commands line (Ok u) old new before after = (r : Run) → StandsAt old r.stage → Runs line r new before after
Commands line (Err f) old new before after = IsOfReport f × ((r : Run) → StandsAt old r.stage → TellsFront line r before after)

-- a refused line is told
abbrev pub Refuses : ℕ × Refusal → Result (Unit {0}) RunFault → Option (List ℕ) → Option (List ℕ) → Type 0
Refuses x (Ok u) before after = Appends before after (refusal_line x)
Refuses x (Err f) before after = IsOfReport f × AppendsFront before after (refusal_line x)

-- why the run ends where the dump fails so. A dump that has started, or is finished, answers no refusal
abbrev pub fault_of : DumpFault → RunFault
fault_of (steps.Renamed ts) = faults.Renamed ts
fault_of (steps.Rolled start oldest) = faults.Rolled start oldest
fault_of steps.WriteFault = faults.OutputFault
fault_of steps.NoMemory = faults.NoMemory
fault_of steps.NotNow = faults.NoMemory
fault_of steps.NoCursor = faults.NoMemory

-- behind a step of the dump: it is told where it had no place, and a fault of it ends the run
abbrev pub Settles : ℕ → Result (Unit {0}) DumpFault → Result (Unit {0}) RunFault → Option (List ℕ) → Option (List ℕ) → Type 0
Settles number (Ok u) result before after = (result ≡ Ok u) × (after ≡ before)
Settles number (Err steps.NotNow) result before after = Refuses (number, NotNow) result before after
Settles number (Err steps.NoCursor) result before after = Refuses (number, NoCursor) result before after
Settles number (Err (steps.Renamed ts)) result before after = (result ≡ Err (faults.Renamed ts)) × (after ≡ before)
Settles number (Err (steps.Rolled start oldest)) result before after = (result ≡ Err (faults.Rolled start oldest)) × (after ≡ before)
Settles number (Err steps.WriteFault) result before after = (result ≡ Err faults.OutputFault) × (after ≡ before)
Settles number (Err steps.NoMemory) result before after = (result ≡ Err faults.NoMemory) × (after ≡ before)
