use Rattle.history_model.proofs.IndexesRun.{run_holds}
use Rattle.history_model.proofs.histories.indexes_are_kept.Goals as goal

pub returns : goal.returns
returns c = run_holds
