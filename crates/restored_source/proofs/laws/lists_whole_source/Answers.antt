use Rattle.restored_source.proofs.Listed.{whole_listed}
use Rattle.restored_source.proofs.laws.lists_whole_source.Goals as goal

pub returns : goal.returns
returns c = whole_listed c.lists_source.ensures c.cut_is_replayed.ensures.stands c.same_are_listed_alike.ensures
