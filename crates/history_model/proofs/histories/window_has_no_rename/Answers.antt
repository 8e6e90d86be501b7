use Rattle.history_model.proofs.Answered.{no_rename}
use Rattle.history_model.proofs.histories.window_has_no_rename.Goals as goal

pub returns : goal.returns
returns c = no_rename c.updates_record.ensures
