use Rattle.archive_heals.proofs.Healing.{finish_heals}
use Rattle.archive_heals.proofs.laws.finish_heals.Goals as goal

pub returns : goal.returns
returns c = finish_heals c.archive_heals.ensures
