use Rattle.update_bounds.proofs.First.{updates_keep_first}
use Rattle.update_bounds.proofs.laws.updates_keep_first.Goals as goal

pub returns : goal.returns
returns c = updates_keep_first
