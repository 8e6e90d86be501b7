use Rattle.archive_entries.proofs.Replayed.{entries_taken}
use Rattle.archive_entries.proofs.laws.entries_are_taken.Goals as goal

pub returns : goal.returns
returns c = entries_taken c.takings_are.ensures c.good_is_kept.ensures
