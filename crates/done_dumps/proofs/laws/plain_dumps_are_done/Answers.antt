use Rattle.done_dumps.proofs.Few.{plain_done}
use Rattle.done_dumps.proofs.laws.plain_dumps_are_done.Goals as goal

pub returns : goal.returns
returns c = plain_done
