use Rattle.done_dumps.proofs.Calm.{quiet_done}
use Rattle.done_dumps.proofs.laws.quiet_dumps_are_done.Goals as goal

pub returns : goal.returns
returns c = quiet_done
