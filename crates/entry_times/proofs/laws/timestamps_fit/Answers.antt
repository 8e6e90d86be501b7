use Rattle.entry_times.proofs.Times.{times_fit}
use Rattle.entry_times.proofs.laws.timestamps_fit.Goals as goal

pub returns : goal.returns
returns c = times_fit
