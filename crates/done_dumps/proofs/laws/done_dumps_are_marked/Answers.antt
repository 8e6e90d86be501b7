use Rattle.done_dumps.proofs.Marked.{done_marked}
use Rattle.done_dumps.proofs.laws.done_dumps_are_marked.Goals as goal

pub returns : goal.returns
returns c = done_marked
