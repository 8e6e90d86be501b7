use Rattle.update_replay.proofs.Named.{names_recorded}
use Rattle.update_replay.proofs.laws.names_record.Goals as goal

pub returns : goal.returns
returns c = names_recorded
