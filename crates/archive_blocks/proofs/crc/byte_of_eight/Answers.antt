use Rattle.std.proofs.Common.{arith}
use Rattle.archive_blocks.proofs.Linear.{byte_by_halves}
use Rattle.archive_blocks.proofs.Table.{half_is}
use Rattle.archive_blocks.proofs.crc.byte_of_eight.Goals as goal

pub returns : goal.returns
returns c = byte_by_halves c.args.behind c.args.byte _ _ (half_is _ _ (omega arith) (omega arith)) (half_is _ _ (omega arith) (omega arith))
