use Rattle.std.proofs.Common.{ap, ◌∙◌, ℕ}
use Rattle.std.specs.Prelude.{bit_xor}
use Rattle.archive_blocks.specs.Shifts.{shifts}
use Rattle.archive_blocks.proofs.Linear.{eight_at_once, are_bytes}
use Rattle.archive_blocks.proofs.crc.add_eight.Goals as goal

pub returns : goal.returns
returns c = c.leave.ensures ∙ (ap (λ (n : ℕ). shifts 64 (bit_xor c.args.sum n)) c.number.ensures ∙ eight_at_once c.args.bytes.now c.args.sum (are_bytes _ c.type_inv.bytes) c.requires)
