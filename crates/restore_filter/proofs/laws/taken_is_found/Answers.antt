use Rattle.restore_filter.proofs.Names.{taken_is}
use Rattle.restore_filter.proofs.laws.taken_is_found.Goals as goal

pub returns : goal.returns
returns c = taken_is
