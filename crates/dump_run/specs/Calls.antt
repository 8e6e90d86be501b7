-- What the calls of a dump come to.
use Rattle.std.specs.Prelude.{ℕ, ◌≡◌, List, [], ◌++◌, Option, Some, Result, Ok, Err}
use Rattle.std.specs.Io.KnownBytes.{Appends}
use Rattle.tool_io.specs.Causes.{AppendsFront}
use Rattle.tool_io.specs.Ends.{End}
use Rattle.archive_content.specs.Pieces.{pieces_text}
use Rattle.history_model.specs.Runs.{Run, Step, Refusal, NotNow, NoCursor, Done, Renamed, Rolled}
use Rattle.dump_model.specs.Archives.{all_pieces}
use Rattle.dump_run.specs.declared.fault.DumpFault.{DumpFault}
use Rattle.dump_run.specs.declared.fault.DumpFault.TheVariants as faults
use Rattle.dump_run.specs.declared.fault.DumpReport.{DumpReport}
use Rattle.dump_run.specs.Dumps.{Dumping, Meets}

-- what steps write behind the prelude
abbrev pub steps_text : List Step → List ℕ
steps_text ss = pieces_text [] (all_pieces ss)

-- known bytes grow by what the steps of s write behind those of r, or by some front of that
abbrev pub Writes : Run → Run → Option (List ℕ) → Option (List ℕ) → Type 0
Writes r s before after = (text : List ℕ) × (steps_text s.steps ≡ steps_text r.steps ++ text) × Appends before after text

abbrev pub WritesFront : Run → Run → Option (List ℕ) → Option (List ℕ) → Type 0
WritesFront r s before after = (text : List ℕ) × (steps_text s.steps ≡ steps_text r.steps ++ text) × AppendsFront before after text

abbrev pub failed_with : DumpFault → Dumping → Dumping
failed_with f d = record d { failed = Some f }

-- a step that was begun: the line makes s of the run, and a front of its text was written
abbrev pub Stopped : DumpFault → Result Run Refusal → Run → Dumping → End → End → Type 0
Stopped f line r new before after = (s : Run) × (line ≡ Ok s) × (s.outcome ≡ Done) × WritesFront r s before.bytes after.bytes × (new.failed ≡ Some f)

-- a copy step or a tail step on a run, of which the line makes another, or which it refuses
abbrev pub ComesTo : Result (Unit {0}) DumpFault → Result Run Refusal → Run → Dumping → Dumping → End → End → Type 0
ComesTo (Ok u) line r old new before after = (s : Run) × (line ≡ Ok s) × Meets new s × Writes r s before.bytes after.bytes
ComesTo (Err faults.NotNow) line r old new before after = (line ≡ Err NotNow) × (new ≡ old) × (after ≡ before)
ComesTo (Err faults.NoCursor) line r old new before after = (line ≡ Err NoCursor) × (new ≡ old) × (after ≡ before)
ComesTo (Err (faults.Renamed ts)) line r old new before after = (s : Run) × (line ≡ Ok s) × (s.outcome ≡ Renamed ts) × (new ≡ failed_with (faults.Renamed ts) old) × (after ≡ before)
ComesTo (Err (faults.Rolled start oldest)) line r old new before after = (s : Run) × (line ≡ Ok s) × (s.outcome ≡ Rolled start oldest) × (new ≡ failed_with (faults.Rolled start oldest) old) × (after ≡ before)
ComesTo (Err faults.WriteFault) line r old new before after = Stopped faults.WriteFault line r new before after
ComesTo (Err faults.NoMemory) line r old new before after = Stopped faults.NoMemory line r new before after

-- the mark, which writes nothing and takes no memory
abbrev pub Marks : Result (Unit {0}) DumpFault → Result Run Refusal → Dumping → Dumping → Type 0
Marks (Ok u) line old new = (s : Run) × (line ≡ Ok s) × Meets new s
Marks (Err faults.NotNow) line old new = (line ≡ Err NotNow) × (new ≡ old)
Marks (Err (faults.Renamed ts)) line old new = (s : Run) × (line ≡ Ok s) × (s.outcome ≡ Renamed ts) × (new ≡ failed_with (faults.Renamed ts) old)
Marks (Err (faults.Rolled start oldest)) line old new = (s : Run) × (line ≡ Ok s) × (s.outcome ≡ Rolled start oldest) × (new ≡ failed_with (faults.Rolled start oldest) old)
Marks (Err faults.NoCursor) line old new = ⊥
Marks (Err faults.WriteFault) line old new = ⊥
Marks (Err faults.NoMemory) line old new = ⊥

-- a call that ended with this fault, over the run with what was to be done done
abbrev pub Fails : DumpFault → Run → Run → Dumping → End → End → Type 0
Fails (faults.Renamed ts) r s new before after = (s.outcome ≡ Renamed ts) × Writes r s before.bytes after.bytes × (new.failed ≡ Some (faults.Renamed ts))
Fails (faults.Rolled start oldest) r s new before after = (s.outcome ≡ Rolled start oldest) × Writes r s before.bytes after.bytes × (new.failed ≡ Some (faults.Rolled start oldest))
Fails faults.WriteFault r s new before after = WritesFront r s before.bytes after.bytes × (new.failed ≡ Some faults.WriteFault)
Fails faults.NoMemory r s new before after = WritesFront r s before.bytes after.bytes × (new.failed ≡ Some faults.NoMemory)
Fails faults.NotNow r s new before after = ⊥
Fails faults.NoCursor r s new before after = ⊥

-- several steps, over the run with them done
abbrev pub Does : Result (Unit {0}) DumpFault → Run → Run → Dumping → End → End → Type 0
Does (Ok u) r s new before after = Meets new s × Writes r s before.bytes after.bytes
Does (Err fault) r s new before after = Fails fault r s new before after

-- the moments and counts of a dump at its end
pub record Reports (report : DumpReport) (d : Dumping) : Type 0 where
  pub start : report.start ≡ d.state.start
  pub last_read : report.last_read ≡ d.state.last_read
  pub end_ts : Some report.end ≡ d.state.mark
  pub documents : report.documents ≡ d.documents
  pub entries : report.entries ≡ d.entries

-- all that is left to do, over the run with what is left done
abbrev pub Finishes : Result DumpReport DumpFault → Run → Run → Dumping → End → End → Type 0
Finishes (Ok report) r s new before after = (s.outcome ≡ Done) × Meets new s × Reports report new × Writes r s before.bytes after.bytes
Finishes (Err fault) r s new before after = Fails fault r s new before after
