use Rattle.tools_words.proofs.Rounds.{may_run}
use Rattle.tools_words.proofs.words.rounds_are_few.Goals as goal

pub returns : goal.returns
returns c = may_run
