use Rattle.update_bounds.proofs.Small.{updates_are_small}
use Rattle.update_bounds.proofs.laws.updates_are_small.Goals as goal

pub returns : goal.returns
returns c = updates_are_small
