use Rattle.document_lines.specs.Digits.{AreWritten}
use Rattle.document_lines.proofs.digits.write_rest.Given as goal

abbrev pub invariant-bytes : goal.invariant-bytes
invariant-bytes l = AreWritten l.bytes l.text l.i
