use Rattle.archive_heals.proofs.Fine.{archive_taken}
use Rattle.archive_heals.proofs.laws.archive_is_taken.Goals as goal

pub returns : goal.returns
returns c = archive_taken c.kept_is_read_again.ensures.start c.takings_are.ensures c.good_is_kept.ensures c.done_is_healed_before.ensures
