use Rattle.metadata_text.proofs.ReadBack.{written_is_read}
use Rattle.metadata_text.proofs.laws.written_is_read.Goals as goal

pub returns : goal.returns
returns c = written_is_read
