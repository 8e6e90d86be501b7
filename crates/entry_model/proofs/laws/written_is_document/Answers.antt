use Rattle.entry_model.proofs.Touched.{written_is_document}
use Rattle.entry_model.proofs.laws.written_is_document.Goals as goal

pub returns : goal.returns
returns c = written_is_document
