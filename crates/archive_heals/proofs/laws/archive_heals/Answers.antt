use Rattle.archive_heals.proofs.Healing.{heals}
use Rattle.archive_heals.proofs.laws.archive_heals.Goals as goal

pub returns : goal.returns
returns c = heals c.kept_is_read_again.ensures.start c.base_is_copy.ensures c.entries_are_taken.ensures c.cut_is_replayed.ensures.replay c.same_is_shown_alike.ensures
