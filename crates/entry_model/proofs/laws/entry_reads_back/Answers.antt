use Rattle.entry_model.proofs.Entries.{reads_back}
use Rattle.entry_model.proofs.laws.entry_reads_back.Goals as goal

pub returns : goal.returns
returns c = reads_back
