use Rattle.std.proofs.Common.{ap, sym, ◌∙◌, ℕ}
use Rattle.std.specs.Prelude.{bit_xor}
use Rattle.archive_blocks.specs.Shifts.{shifts}
use Rattle.archive_blocks.proofs.Linear.{shifts_more, eight_shifts}
use Rattle.archive_blocks.proofs.crc.add_byte.Goals as goal

pub returns : goal.returns
returns c =
    c.leave_half-2.ensures ∙ (ap (shifts 4) c.leave_half.ensures ∙ (sym (shifts_more 4 4 _) ∙ ap (λ (b : ℕ). shifts 8 (bit_xor c.args.sum b)) c.from.ensures)) ∙ sym (eight_shifts _ _)
