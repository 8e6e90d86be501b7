use Rattle.restored_source.proofs.Listed.{same_listed}
use Rattle.restored_source.proofs.laws.same_are_listed_alike.Goals as goal

pub returns : goal.returns
returns c = same_listed c.same_states.ensures.counts c.same_is_shown_alike.ensures
