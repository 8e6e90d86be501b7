use Rattle.done_dumps.proofs.Ends.{ends_last, states_last}
use Rattle.done_dumps.proofs.laws.unmarked_dumps_end_last.Goals as goal

pub returns : goal.returns
returns c = record { last = ends_last; states = states_last }
