use Rattle.index_keys.proofs.NormalForms.{normal_once}
use Rattle.index_keys.proofs.laws.normal_once.Goals as goal

pub returns : goal.returns
returns c = normal_once
