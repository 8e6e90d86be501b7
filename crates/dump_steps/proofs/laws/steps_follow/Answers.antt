use Rattle.dump_steps.proofs.DumpRuns.{steps_follow}
use Rattle.dump_steps.proofs.laws.steps_follow.Goals as goal

pub returns : goal.returns
returns c = steps_follow
