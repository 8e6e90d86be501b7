use Rattle.std.proofs.Common.{length}
use Rattle.history_model.specs.WellFormed.{AreWellFormedChanges}
use Rattle.schedule_dump.proofs.well_formed.changes_are_well_formed.Given as goal

abbrev pub invariant-changes : goal.invariant-changes
invariant-changes l = AreWellFormedChanges l.left → AreWellFormedChanges l.fn.changes

abbrev pub decreases-changes : goal.decreases-changes
decreases-changes l = length l.left
