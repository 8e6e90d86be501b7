use Rattle.std.proofs.Common.{length}
use Rattle.index_keys.proofs.branches.+meets.Given as goal

abbrev pub decreases-meets : goal.decreases-meets
decreases-meets l = length l.path.now
