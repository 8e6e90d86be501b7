use Rattle.bson_encode.proofs.Keys.{equal_keys}
use Rattle.bson_encode.proofs.laws.equal_keys.Goals as goal

pub returns : goal.returns
returns c = equal_keys
