use Rattle.history_model.proofs.Finished.{run_whole}
use Rattle.history_model.proofs.dumps.done_is_whole.Goals as goal

pub returns : goal.returns
returns c = λ s w done. run_whole c.updates_record.ensures s w done
