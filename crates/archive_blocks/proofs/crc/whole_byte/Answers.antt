use Rattle.std.proofs.Common.{arith, ap, ◌∙◌}
use Rattle.archive_blocks.specs.Shifts.{shifts}
use Rattle.archive_blocks.proofs.Linear.{eight_more}
use Rattle.archive_blocks.proofs.crc.whole_byte.Goals as goal

pub returns-else-behind-lt8 : goal.returns-else-behind-lt8
returns-else-behind-lt8 c = c.leave.ensures ∙ (ap (shifts 64) c.byte_of_eight-else-behind-lt8.ensures ∙ eight_more c.args.behind c.args.byte (omega arith))
