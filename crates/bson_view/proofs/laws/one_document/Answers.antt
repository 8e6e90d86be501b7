use Rattle.bson_view.proofs.Meanings.{document_is}
use Rattle.bson_view.proofs.laws.one_document.Goals as goal

pub returns : goal.returns
returns c = document_is
