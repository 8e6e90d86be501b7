use Rattle.std.proofs.Common.{length}
use Rattle.update_action.proofs.single.+ends_at_index.Given as goal

abbrev pub decreases-ends_at_index : goal.decreases-ends_at_index
decreases-ends_at_index l = length l.parts.now
