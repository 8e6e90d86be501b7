use Rattle.archive_known.proofs.Contents.{has_content}
use Rattle.archive_known.proofs.laws.archive_has_content.Goals as goal

pub returns : goal.returns
returns c = has_content c.written_is_content.ensures c.done_is_healed_before.ensures
