use Rattle.std.proofs.Common.{rules}
use Rattle.coll_state.specs.Rows.{state_of}
use Rattle.drill_run.proofs.run.list_restored.Goals as goal

pub returns-in-Ok : goal.returns-in-Ok
returns-in-Ok c = (state_of c.in_ok-state.state, c.in_ok-state.ensures.state, search rules)
