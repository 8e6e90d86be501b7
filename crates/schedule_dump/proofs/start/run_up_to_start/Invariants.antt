use Rattle.std.proofs.Common.{ℕ, ◌≤◌, List, Option, length, map as each}
use Rattle.history_model.specs.Runs.{Schedule}
use Rattle.schedule_report.specs.Schedules.{numbered}
use Rattle.schedule_dump.specs.Progress.{BeforeStart}
use Rattle.schedule_dump.proofs.start.run_up_to_start.Given as goal

abbrev pub invariant-lines : goal.invariant-lines
invariant-lines g l = record {
  waits : (s : Schedule) (first : Option (List ℕ)) → BeforeStart s l.fn.store (each numbered l.fn.left) first (g.R.Sink.end l.fn.report).bytes → BeforeStart s l.store (each numbered l.left) first (g.R.Sink.end l.report).bytes;
  later : (g.R.Sink.end l.fn.report).faults ≤ (g.R.Sink.end l.report).faults;
}

abbrev pub decreases-lines : goal.decreases-lines
decreases-lines g l = length l.left
