use Rattle.done_dumps.proofs.Sources.{makes_all}
use Rattle.done_dumps.proofs.laws.source_makes_all.Goals as goal

pub returns : goal.returns
returns c = makes_all
