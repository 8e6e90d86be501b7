use Rattle.bson_value.proofs.Alike.{alike_looks, looks_alike}
use Rattle.bson_value.proofs.laws.alike_looks_the_same.Goals as goal

pub returns : goal.returns
returns c a b = (alike_looks a b, looks_alike a b)
