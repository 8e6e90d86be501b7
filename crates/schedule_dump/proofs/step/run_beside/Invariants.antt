use Rattle.std.proofs.Common.{◌≡◌, ◌≤◌, None, length, map as each}
use Rattle.history_model.specs.Runs.{Schedule}
use Rattle.schedule_report.specs.Schedules.{numbered}
use Rattle.schedule_dump.specs.Progress.{DuringDump, Ends, ends}
use Rattle.schedule_dump.proofs.step.run_beside.Given as goal

abbrev pub invariant-lines : goal.invariant-lines
invariant-lines g l = record {
  goes : (s : Schedule) (first : Ends) → DuringDump s l.fn.store l.fn.dump (each numbered l.fn.left) first (ends (g.K.Sink.end l.fn.output) (g.R.Sink.end l.fn.report)) → DuringDump s l.store l.dump (each numbered l.left) first (ends (g.K.Sink.end l.output) (g.R.Sink.end l.report));
  going : l.fn.dump.failed ≡ None → l.dump.failed ≡ None;
  written : (g.K.Sink.end l.fn.output).faults ≤ (g.K.Sink.end l.output).faults;
  told : (g.R.Sink.end l.fn.report).faults ≤ (g.R.Sink.end l.report).faults;
}

abbrev pub decreases-lines : goal.decreases-lines
decreases-lines g l = length l.left
