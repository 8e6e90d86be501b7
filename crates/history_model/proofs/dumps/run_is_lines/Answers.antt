use Rattle.history_model.proofs.WholeRun.{run_started}
use Rattle.history_model.proofs.dumps.run_is_lines.Goals as goal

pub returns : goal.returns
returns c = λ s w. run_started c.updates_record.ensures s w
