use Rattle.history_model.proofs.SourceMade.{source_is_before}
use Rattle.history_model.proofs.histories.source_is_before.Goals as goal

pub returns : goal.returns
returns c = source_is_before
