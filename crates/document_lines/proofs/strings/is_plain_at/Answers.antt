use Rattle.std.proofs.Common.{arith}
use Rattle.document_lines.proofs.Escapes.{plain_within}
use Rattle.document_lines.proofs.strings.is_plain_at.Goals as goal

pub returns : goal.returns
returns g c e = plain_within c.args.text.now c.args.at g.row.N _ (omega arith) c.requires (c.is_plain.ensures e)
