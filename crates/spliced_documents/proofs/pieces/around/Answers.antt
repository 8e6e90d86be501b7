use Rattle.bson_check.specs.Spells.{Spells}
use Rattle.spliced_documents.proofs.pieces.around.Goals as goal

pub parted-requires-clause-short : goal.parted-requires-clause-short
unfolding Spells
parted-requires-clause-short c = c.bytes-bytes.ensures.spelled.0
