use Rattle.std.proofs.Common.{◌+◌, arith, subst}
use Rattle.document_lines.specs.Digits.{AreWritten}
use Rattle.document_lines.proofs.HexDigits.{written_more}
use Rattle.document_lines.proofs.digits.write_block.Goals as goal

pub bytes-preserved : goal.bytes-preserved
bytes-preserved c =
    subst (AreWritten c.args.bytes.now _) (omega arith)
    (written_more c.args.bytes.now c.bytes.text (c.args.at + c.bytes.i) _ _ (omega arith) (c.high_digits-high.ensures c.bytes.i (omega arith)) (c.low_digits-low.ensures c.bytes.i (omega arith)) c.bytes.invariant)
