use Rattle.bson_view.proofs.Meanings.{value_is}
use Rattle.bson_view.proofs.laws.one_value.Goals as goal

pub returns : goal.returns
returns c = value_is
