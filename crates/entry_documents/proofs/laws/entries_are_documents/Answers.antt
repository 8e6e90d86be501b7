use Rattle.entry_documents.proofs.Documents.{entries_are, items_are}
use Rattle.entry_documents.proofs.laws.entries_are_documents.Goals as goal

pub returns : goal.returns
returns c = record { entries = entries_are; items = items_are }
