use Rattle.update_records.proofs.Records.{stay_formed}
use Rattle.update_records.proofs.laws.updates_stay_well_formed.Goals as goal

pub returns : goal.returns
returns c = stay_formed
