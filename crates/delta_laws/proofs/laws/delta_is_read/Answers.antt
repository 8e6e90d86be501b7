use Rattle.delta_laws.proofs.Deltas.{delta_read}
use Rattle.delta_laws.proofs.laws.delta_is_read.Goals as goal

pub returns : goal.returns
returns c = delta_read c.written_is_read.ensures
