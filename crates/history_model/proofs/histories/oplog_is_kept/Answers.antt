use Rattle.history_model.proofs.RingLongest.{kept_is_longest}
use Rattle.history_model.proofs.Runs.{run_good}
use Rattle.history_model.proofs.histories.oplog_is_kept.Goals as goal

pub returns : goal.returns
returns c = record { kept = λ s w. (run_good c.updates_record.ensures s w).0.oplog; ring = kept_is_longest }
