use Rattle.capped_oplog.proofs.Longest.{keeps_longest}
use Rattle.capped_oplog.proofs.laws.keeps_the_longest_suffix.Goals as goal

pub returns : goal.returns
returns c = keeps_longest
