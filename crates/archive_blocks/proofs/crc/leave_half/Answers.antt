use Rattle.std.proofs.Common.{arith, ap, ◌∙◌, ◌/◌, ℕ}
use Rattle.std.specs.Prelude.{bit_xor}
use Rattle.archive_blocks.proofs.Linear.{half_leaves}
use Rattle.archive_blocks.proofs.Table.{half_is}
use Rattle.archive_blocks.proofs.crc.leave_half.Goals as goal

pub returns : goal.returns
returns c = ap (λ (x : ℕ). bit_xor (c.args.sum / 16) x) (half_is 0 _ (omega arith) (omega arith)) ∙ half_leaves c.args.sum
