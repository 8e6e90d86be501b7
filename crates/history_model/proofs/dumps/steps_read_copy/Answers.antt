use Rattle.history_model.proofs.Mirrored.{lines_mirror}
use Rattle.history_model.proofs.dumps.steps_read_copy.Goals as goal

pub returns : goal.returns
returns c = λ caps ls r w. lines_mirror c.updates_record.ensures caps ls r w
