use Rattle.archive_content.proofs.Contents.{written_content}
use Rattle.archive_content.proofs.laws.written_is_content.Goals as goal

pub returns : goal.returns
returns c = written_content c.heads_are_read.ensures c.headers_are_read.ensures c.metas_are_read.ensures c.written_sizes.ensures
