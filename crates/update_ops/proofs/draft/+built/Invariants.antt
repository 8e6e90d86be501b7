use Rattle.std.proofs.Common.{length}
use Rattle.update_ops.proofs.draft.+built.Given as goal

abbrev pub decreases-built : goal.decreases-built
decreases-built l = length l.names.now
