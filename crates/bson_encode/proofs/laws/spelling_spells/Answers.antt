use Rattle.bson_encode.proofs.Grammar.{spelling_spells}
use Rattle.bson_encode.proofs.laws.spelling_spells.Goals as goal

pub returns : goal.returns
returns c = spelling_spells
