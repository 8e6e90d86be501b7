use Rattle.std.proofs.Common.{length, map as each}
use Rattle.history_model.specs.WellFormed.{AreWellFormedLines}
use Rattle.schedule_report.specs.Schedules.{numbered}
use Rattle.schedule_dump.proofs.well_formed.lines_are_well_formed.Given as goal

abbrev pub invariant-lines : goal.invariant-lines
invariant-lines l = AreWellFormedLines (each numbered l.left) → AreWellFormedLines (each numbered l.fn.lines)

abbrev pub decreases-lines : goal.decreases-lines
decreases-lines l = length l.left
