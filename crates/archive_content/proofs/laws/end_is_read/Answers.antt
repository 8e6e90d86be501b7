use Rattle.archive_content.proofs.Blocks.{end_runs}
use Rattle.archive_content.proofs.laws.end_is_read.Goals as goal

pub returns : goal.returns
returns c = end_runs
