use Rattle.std.proofs.Common.{length}
use Rattle.doc_path.proofs.touches.+behind.Given as goal

abbrev pub decreases-behind : goal.decreases-behind
decreases-behind l = length l.front.now
