-- How far the lines of a schedule were run.
use Rattle.std.specs.Prelude.{ℕ, ◌≡◌, List, [], ◌++◌, map as each, Bool, true, false, Option, None, Result, Ok, Err}
use Rattle.std.specs.Io.KnownBytes.{Appends}
use Rattle.tool_io.specs.Causes.{AppendsFront}
use Rattle.tool_io.specs.Ends.{End}
use Rattle.schedule_model.specs.declared.line.Line.{Line}
use Rattle.state_model.specs.States.{State}
use Rattle.history_model.specs.Invariants.{RunOk}
use Rattle.history_model.specs.Runs.{Schedule, Run, Done, first_run, started, after_lines, finished, run}
use Rattle.history_model.specs.Histories.{history, moments, stopped, refusals_told}
use Rattle.dump_model.specs.Archives.{state_at, text_of_steps}
use Rattle.dump_run.specs.Dumps.{Dumping, Meets}
use Rattle.store_core.specs.Stores.{Stored, StandsAt}
use Rattle.schedule_text.specs.declared.schedule.NumberedLine.{NumberedLine}
use Rattle.schedule_report.specs.Lines.{refusals_text}
use Rattle.schedule_report.specs.Schedules.{numbered}
use Rattle.schedule_dump.specs.declared.fault.RunFault.{RunFault}
use Rattle.schedule_dump.specs.Lines.{IsOfReport}

-- the state on which the dump of a schedule starts
abbrev pub start_state : Schedule → State
start_state s = state_at (moments s).start (history s)

-- the store stands where this run does, which these lines lead on to the run of the whole schedule; what was refused on it is told
pub record Progress (s : Schedule) (store : Stored) (at : Run) (rest : List (ℕ × Line)) (before after : Option (List ℕ)) : Type 0 where
  pub stands : StandsAt store at.stage
  pub good : (front back : List (ℕ × Line)) → rest ≡ front ++ back → RunOk s.caps (after_lines front at)
  pub whole : run s ≡ finished (after_lines rest at)
  pub stops : stopped s.lines (first_run s.caps) ≡ stopped rest at
  pub told : Appends before after (refusals_text at.refused)

-- the dump hasn't started
pub record BeforeStart (s : Schedule) (store : Stored) (rest : List (ℕ × Line)) (before after : Option (List ℕ)) : Type 0 where
  pub at : Run
  pub none : at.dump ≡ None
  pub empty : at.steps ≡ []
  pub done : at.outcome ≡ Done
  pub reached : Progress s store at rest before after

-- the dump is to start, and then these lines follow
pub record AtStart (s : Schedule) (store : Stored) (rest : List (ℕ × Line)) (before after : Option (List ℕ)) : Type 0 where
  pub on : Run
  pub empty : on.steps ≡ []
  pub done : on.outcome ≡ Done
  pub ok : RunOk s.caps on
  pub reached : Progress s store (started on) rest before after

-- some front of what is told of the whole schedule was told
abbrev pub Breaks : RunFault → Schedule → Option (List ℕ) → Option (List ℕ) → Type 0
Breaks fault s before after = IsOfReport fault × AppendsFront before after (refusals_text (refusals_told s))

-- behind a line: whether the dump starts with it
abbrev pub RunsBefore : Result Bool RunFault → Schedule → Stored → List (ℕ × Line) → Option (List ℕ) → Option (List ℕ) → Type 0
RunsBefore (Ok true) s store rest before after = AtStart s store rest before after
RunsBefore (Ok false) s store rest before after = BeforeStart s store rest before after
RunsBefore (Err fault) s store rest before after = Breaks fault s before after

-- behind the lines before the start: those that are left
abbrev pub GetsToStart : Result (Unit {0}) RunFault → Schedule → Stored → List NumberedLine → Option (List ℕ) → Option (List ℕ) → Type 0
GetsToStart (Ok _) s store rest before after = AtStart s store (each numbered rest) before after
GetsToStart (Err fault) s store rest before after = Breaks fault s before after

-- the bytes of the output and of the report, where they are known
pub record Ends : Type 0 where
  pub output : Option (List ℕ)
  pub report : Option (List ℕ)

abbrev pub ends : End → End → Ends
ends output report = record { output = output.bytes; report = report.bytes }

-- the dump has started and goes on beside the store: what its steps write is written
pub record DuringDump (s : Schedule) (store : Stored) (dump : Dumping) (rest : List (ℕ × Line)) (before after : Ends) : Type 0 where
  pub at : Run
  pub meets : Meets dump at
  pub wrote : Appends before.output after.output (text_of_steps (start_state s) at.steps)
  pub reached : Progress s store at rest before.report after.report
