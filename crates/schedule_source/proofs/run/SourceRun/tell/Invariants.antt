use Rattle.std.proofs.Common.{◌≤◌, take}
use Rattle.std.specs.Prelude.{flat_map}
use Rattle.std.specs.Io.KnownBytes.{Appends}
use Rattle.schedule_source.proofs.Telling.{told_line}
use Rattle.schedule_source.proofs.run.SourceRun.tell.Given as goal

abbrev pub invariant-loop-line : goal.invariant-loop-line
invariant-loop-line g l = record {
  appends : Appends (g.R.Sink.end l.fn.report).bytes (g.R.Sink.end l.report).bytes (flat_map told_line (take l.line-index l.line-items));
  later : (g.R.Sink.end l.fn.report).faults ≤ (g.R.Sink.end l.report).faults;
}
