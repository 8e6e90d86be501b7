use Rattle.restored_source.proofs.Listed.{transactions_listed}
use Rattle.restored_source.proofs.laws.lists_whole_transactions.Goals as goal

pub returns : goal.returns
returns c = transactions_listed c.lists_source.ensures c.at_is_whole.ensures
