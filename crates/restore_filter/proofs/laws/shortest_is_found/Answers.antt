use Rattle.restore_filter.proofs.Texts.{shortest_found, one_is_shortest}
use Rattle.restore_filter.proofs.laws.shortest_is_found.Goals as goal

pub returns-clause-found : goal.returns-clause-found
returns-clause-found c = shortest_found

pub returns-clause-one : goal.returns-clause-one
returns-clause-one c = one_is_shortest
