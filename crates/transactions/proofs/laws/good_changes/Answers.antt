use Rattle.transactions.proofs.Passing.{good_are}
use Rattle.transactions.proofs.laws.good_changes.Goals as goal

pub returns : goal.returns
returns c = good_are
