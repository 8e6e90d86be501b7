use Rattle.history_model.proofs.Torn.{torn_run}
use Rattle.history_model.proofs.dumps.lines_heal.Goals as goal

pub returns : goal.returns
returns c = torn_run c.copy_heals.ensures.heals c.updates_record.ensures
