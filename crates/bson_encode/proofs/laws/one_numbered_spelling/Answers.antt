use Rattle.bson_encode.proofs.Numbered.{one_numbered}
use Rattle.bson_encode.proofs.laws.one_numbered_spelling.Goals as goal

pub returns : goal.returns
returns c = one_numbered
