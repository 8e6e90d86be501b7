use Rattle.done_dumps.proofs.Started.{starts}
use Rattle.done_dumps.proofs.laws.dumps_start.Goals as goal

pub returns : goal.returns
returns c = starts
