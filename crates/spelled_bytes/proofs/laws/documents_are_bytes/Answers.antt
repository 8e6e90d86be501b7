use Rattle.spelled_bytes.proofs.Spelled.{documents_bytes}
use Rattle.spelled_bytes.proofs.laws.documents_are_bytes.Goals as goal

pub returns : goal.returns
returns c = documents_bytes
