use Rattle.history_model.proofs.HealedRun.{run_healed}
use Rattle.history_model.proofs.dumps.done_is_healed.Goals as goal

pub returns : goal.returns
returns c = λ s w done. run_healed c.copy_heals.ensures.heals c.updates_record.ensures s w done
