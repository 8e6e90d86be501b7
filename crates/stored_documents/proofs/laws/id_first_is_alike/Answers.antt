use Rattle.stored_documents.proofs.Sizes.{first_id, first_no_larger}
use Rattle.stored_documents.proofs.laws.id_first_is_alike.Goals as goal

pub returns-clause-id : goal.returns-clause-id
returns-clause-id c = first_id

pub returns-clause-size : goal.returns-clause-size
returns-clause-size c = first_no_larger
