use Rattle.stored_documents.proofs.Sizes.{good_id, good_short}
use Rattle.stored_documents.proofs.laws.stored_documents_are_good.Goals as goal

pub returns-clause-id : goal.returns-clause-id
returns-clause-id c = good_id

pub returns-clause-short : goal.returns-clause-short
returns-clause-short c = good_short
