use Rattle.std.proofs.Common.{ap, sym, ◌∙◌, ◌/◌, ℕ}
use Rattle.std.specs.Prelude.{bit_xor}
use Rattle.archive_blocks.specs.Shifts.{shifts}
use Rattle.archive_blocks.proofs.Linear.{byte_leaves, eight_shifts}
use Rattle.archive_blocks.proofs.crc.CrcTable.add_byte.Goals as goal

pub returns : goal.returns
returns c =
    let n = bit_xor c.args.sum c.from.result in
    ap (λ (x : ℕ). bit_xor (n / 256) x) c.row.ensures ∙ (byte_leaves n ∙ (ap (λ (b : ℕ). shifts 8 (bit_xor c.args.sum b)) c.from.ensures ∙ sym (eight_shifts _ _)))
