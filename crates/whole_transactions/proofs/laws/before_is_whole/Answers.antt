use Rattle.whole_transactions.proofs.Whole.{before_is_whole}
use Rattle.whole_transactions.proofs.laws.before_is_whole.Goals as goal

pub returns : goal.returns
returns c = before_is_whole c.timestamps_rise.ensures
