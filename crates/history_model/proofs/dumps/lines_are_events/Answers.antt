use Rattle.history_model.proofs.Modelled.{lines_leading}
use Rattle.history_model.proofs.dumps.lines_are_events.Goals as goal

pub returns : goal.returns
returns c = record { recorded = λ caps ls r w h g. (lines_leading c.updates_record.ensures caps ls r w h g).0; lead = λ caps ls r w h g. (lines_leading c.updates_record.ensures caps ls r w h g).1 }
