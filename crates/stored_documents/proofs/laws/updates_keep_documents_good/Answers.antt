use Rattle.stored_documents.proofs.Updates.{keeps_id, stays_short}
use Rattle.stored_documents.proofs.laws.updates_keep_documents_good.Goals as goal

pub returns-clause-id : goal.returns-clause-id
returns-clause-id c = keeps_id

pub returns-clause-short : goal.returns-clause-short
returns-clause-short c = stays_short
