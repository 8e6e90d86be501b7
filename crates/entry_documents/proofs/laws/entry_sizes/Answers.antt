use Rattle.entry_documents.proofs.Sizes.{entry_sizes, item_sizes, entry_levels, item_levels}
use Rattle.entry_documents.proofs.laws.entry_sizes.Goals as goal

pub returns : goal.returns
returns c = record { entries = entry_sizes; items = item_sizes; entry_levels = entry_levels; item_levels = item_levels }
