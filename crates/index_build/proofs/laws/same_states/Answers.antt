use Rattle.index_build.proofs.Alike.{counts_shown, faults_shown}
use Rattle.index_build.proofs.laws.same_states.Goals as goal

pub returns-clause-counts : goal.returns-clause-counts
returns-clause-counts c = λ a b same. counts_shown a b ((c.same_is_shown_alike.ensures a b).0 same)

pub returns-clause-faults : goal.returns-clause-faults
returns-clause-faults c = λ a b same. faults_shown a b ((c.same_is_shown_alike.ensures a b).0 same)
