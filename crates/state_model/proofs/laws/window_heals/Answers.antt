use Rattle.state_model.proofs.Windows.{window_keeps, healed}
use Rattle.state_model.proofs.laws.window_heals.Goals as goal

pub returns : goal.returns
returns c = record { keeps = window_keeps; heals = healed c.record_heals.ensures }
