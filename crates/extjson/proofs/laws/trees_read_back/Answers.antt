use Rattle.extjson.proofs.RoundTrips.{read_back}
use Rattle.extjson.proofs.laws.trees_read_back.Goals as goal

pub returns : goal.returns
returns c = read_back
