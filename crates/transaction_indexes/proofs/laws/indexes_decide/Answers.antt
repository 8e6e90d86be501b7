use Rattle.transaction_indexes.proofs.Refusing.{changes_are_same, refusals_are_same, indexes_decide, unchanged_is_accepted}
use Rattle.transaction_indexes.proofs.laws.indexes_decide.Goals as goal

pub returns-clause-changes : goal.returns-clause-changes
returns-clause-changes c = changes_are_same

pub returns-clause-refusals : goal.returns-clause-refusals
returns-clause-refusals c = refusals_are_same

pub returns-clause-writes : goal.returns-clause-writes
returns-clause-writes c = indexes_decide

pub returns-clause-unchanged : goal.returns-clause-unchanged
returns-clause-unchanged c = unchanged_is_accepted
