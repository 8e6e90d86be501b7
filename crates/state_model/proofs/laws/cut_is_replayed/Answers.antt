use Rattle.state_model.proofs.Cut.{cut_stands, cut_replay}
use Rattle.state_model.proofs.laws.cut_is_replayed.Goals as goal

pub returns : goal.returns
returns c = record { stands = cut_stands; replay = cut_replay }
