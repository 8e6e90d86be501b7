use Rattle.restore_entries.proofs.Cuts.{cut_is_taken}
use Rattle.restore_entries.proofs.laws.cut_is_taken.Goals as goal

pub returns : goal.returns
returns c = cut_is_taken
