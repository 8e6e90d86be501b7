use Rattle.archive_content.proofs.Blocks.{block_runs}
use Rattle.archive_content.proofs.laws.block_is_read.Goals as goal

pub returns : goal.returns
returns c = block_runs
