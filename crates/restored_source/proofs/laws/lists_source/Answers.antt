use Rattle.restored_source.proofs.Listed.{source_listed}
use Rattle.restored_source.proofs.laws.lists_source.Goals as goal

pub returns : goal.returns
returns c = source_listed c.archive_heals.ensures c.done_is_healed_before.ensures c.same_are_listed_alike.ensures
