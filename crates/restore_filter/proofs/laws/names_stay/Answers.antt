use Rattle.restore_filter.proofs.Names.{names_stay}
use Rattle.restore_filter.proofs.laws.names_stay.Goals as goal

pub returns : goal.returns
returns c = names_stay
