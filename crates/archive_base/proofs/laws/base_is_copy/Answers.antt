use Rattle.archive_base.proofs.Bases.{base_copy}
use Rattle.archive_base.proofs.laws.base_is_copy.Goals as goal

pub returns : goal.returns
returns c = base_copy c.takings_are.ensures
