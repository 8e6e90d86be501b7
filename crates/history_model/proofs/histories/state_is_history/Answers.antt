use Rattle.history_model.proofs.Runs.{run_good}
use Rattle.history_model.proofs.histories.state_is_history.Goals as goal

pub returns : goal.returns
returns c = λ s w. (run_good c.updates_record.ensures s w).0.state
