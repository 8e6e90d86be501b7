use Rattle.whole_transactions.proofs.Whole.{at_is_whole}
use Rattle.whole_transactions.proofs.laws.at_is_whole.Goals as goal

pub returns : goal.returns
returns c = at_is_whole c.timestamps_rise.ensures
