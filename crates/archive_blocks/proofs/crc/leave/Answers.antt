use Rattle.std.proofs.Common.{arith}
use Rattle.archive_blocks.proofs.Linear.{no_bits, halves_step}
use Rattle.archive_blocks.proofs.Table.{half_is}
use Rattle.archive_blocks.proofs.crc.leave.Goals as goal

pub halves-init : goal.halves-init
halves-init c = no_bits c.args.number

pub halves-preserved : goal.halves-preserved
halves-preserved c = halves_step c.args.number c.halves.j _ _ c.halves-test.true (half_is _ _ (omega arith) (omega arith)) c.halves.invariant
