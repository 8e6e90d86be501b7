use Rattle.transactions.proofs.Keys.{keep_keys}
use Rattle.transactions.proofs.Passing.{keep_test}
use Rattle.transactions.proofs.laws.changes_keep_documents.Goals as goal

pub returns-clause-keys : goal.returns-clause-keys
returns-clause-keys c = keep_keys

pub returns-clause-test : goal.returns-clause-test
returns-clause-test c = keep_test
