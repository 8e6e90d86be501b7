use Rattle.entry_bytes.proofs.Decoded.{entries_are_read, documents_are_read}
use Rattle.entry_bytes.proofs.laws.entries_are_read.Goals as goal

pub returns : goal.returns
returns c = record { entries = entries_are_read; documents = documents_are_read }
