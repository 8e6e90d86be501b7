use Rattle.entry_model.proofs.Touched.{written_is_read}
use Rattle.entry_model.proofs.laws.written_is_read.Goals as goal

pub returns : goal.returns
returns c = written_is_read
