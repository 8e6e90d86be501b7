use Rattle.history_model.proofs.InTheRing.{window_kept, tail_kept}
use Rattle.history_model.proofs.Runs.{lines_good}
use Rattle.history_model.proofs.histories.window_stands.Goals as goal

pub returns : goal.returns
returns c = record { stands = λ c r a b k h live g. window_kept c r a b k h.0 live g; sends = λ c r s n h. tail_kept c r s n h.0; reached = λ caps ls r w h. lines_good c.updates_record.ensures caps ls r w h }
