use Rattle.transactions.proofs.Writes.{are_writes, are_counted}
use Rattle.transactions.proofs.laws.changes_are_writes.Goals as goal

pub returns-clause-writes : goal.returns-clause-writes
returns-clause-writes c = are_writes

pub returns-clause-count : goal.returns-clause-count
returns-clause-count c = are_counted
