use Rattle.std.proofs.Common.{◌≡◌, ap, ◌∙◌, take, drop, ℕ}
use Rattle.std.specs.Prelude.{bit_xor}
use Rattle.std.specs.Int.{from_le_bytes, w64}
use Rattle.std.proofs.lemmas.List.{take_rest}
use Rattle.archive_blocks.specs.Shifts.{shifts}
use Rattle.archive_blocks.proofs.Linear.{sixteen_at_once, are_bytes}
use Rattle.archive_blocks.proofs.crc.CrcTable.add_sixteen.Goals as goal

pub returns : goal.returns
returns c =
    let last : c.leave-last.result ≡ shifts 64 (from_le_bytes w64 (drop 8 c.args.bytes.now)) = c.leave-last.ensures ∙ ap (shifts 64) (c.number.ensures ∙ ap (from_le_bytes w64) (take_rest c.args.bytes.now 8)) in
    let first : c.leave.result ≡ shifts 128 (bit_xor c.args.sum (from_le_bytes w64 (take 8 c.args.bytes.now))) = c.leave.ensures ∙ ap (λ (n : ℕ). shifts 128 (bit_xor c.args.sum n)) c.number-2.ensures in
    cc (last, first, sixteen_at_once c.args.bytes.now c.args.sum (are_bytes _ c.type_inv.bytes) c.requires)
