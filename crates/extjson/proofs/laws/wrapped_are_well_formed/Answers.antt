use Rattle.extjson.proofs.Formed.{wrapped_well}
use Rattle.extjson.proofs.laws.wrapped_are_well_formed.Goals as goal

pub returns : goal.returns
returns c = wrapped_well
