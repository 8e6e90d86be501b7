use Rattle.std.proofs.Common.{slice_index_or, rules}
use Rattle.document_lines.proofs.Escapes.{plain_more}
use Rattle.document_lines.proofs.strings.is_plain.Goals as goal

pub bytes-preserved : goal.bytes-preserved
bytes-preserved c = plain_more c.args.run.now c.bytes.i (slice_index_or c.args.run.now c.bytes.i 0) c.bytes.special (search rules) c.bytes.invariant
