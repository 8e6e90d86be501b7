use Rattle.index_build.proofs.Apart.{stays_apart, apart_without}
use Rattle.index_build.proofs.laws.holds_on.Goals as goal

pub returns-clause-with : goal.returns-clause-with
returns-clause-with c = stays_apart

pub returns-clause-without : goal.returns-clause-without
returns-clause-without c = apart_without
