use Rattle.replay.proofs.Made.{made_is_replayed}
use Rattle.replay.proofs.laws.made_steps.Goals as goal

pub returns : goal.returns
returns c = made_is_replayed
