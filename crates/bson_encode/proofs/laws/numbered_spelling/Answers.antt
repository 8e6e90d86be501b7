use Rattle.bson_encode.proofs.Numbered.{is_numbered}
use Rattle.bson_encode.proofs.laws.numbered_spelling.Goals as goal

pub returns : goal.returns
returns c = is_numbered
