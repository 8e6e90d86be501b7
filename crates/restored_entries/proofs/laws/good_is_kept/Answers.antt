use Rattle.restored_entries.proofs.Kept.{good_kept}
use Rattle.restored_entries.proofs.laws.good_is_kept.Goals as goal

pub returns : goal.returns
returns c = good_kept c.cut_is_taken.ensures
