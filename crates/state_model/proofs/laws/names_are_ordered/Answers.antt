use Rattle.state_model.proofs.Keys.{key_total, ns_total, key_anti, ns_anti}
use Rattle.state_model.proofs.laws.names_are_ordered.Goals as goal

pub returns : goal.returns
returns c = record { total = (key_total, ns_total); ties = (key_anti, ns_anti) }
