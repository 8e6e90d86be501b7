use Rattle.std.proofs.Common.{arith}
use Rattle.hex.proofs.Pairs.{encode_done}
use Rattle.document_lines.proofs.HexDigits.{written_more}
use Rattle.document_lines.proofs.digits.write_rest.Goals as goal

pub bytes-preserved : goal.bytes-preserved
bytes-preserved c = written_more c.args.bytes.now c.bytes.text c.bytes.i _ _ (omega arith) c.digit.ensures c.digit-in-bytes.ensures c.bytes.invariant

pub returns : goal.returns
returns c = encode_done _ _ _ c.bytes.i (omega arith) (omega (arith, c.bytes.invariant.0)) c.bytes.invariant.1
