use Rattle.std.proofs.Common.{length}
use Rattle.doc_path.proofs.place.+at_end.Given as goal

abbrev pub decreases-at_end : goal.decreases-at_end
decreases-at_end l = length l.way.now
