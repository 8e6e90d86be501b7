use Rattle.state_model.proofs.Windows.{recorded_step}
use Rattle.state_model.proofs.laws.record_heals.Goals as goal

pub returns : goal.returns
returns c = recorded_step c.replay_keeps_agreement.ensures.one
