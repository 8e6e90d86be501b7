use Rattle.written_levels.proofs.Shallow.{written_is_shallow}
use Rattle.written_levels.proofs.laws.written_is_shallow.Goals as goal

pub returns : goal.returns
returns c = written_is_shallow
