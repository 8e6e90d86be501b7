use Rattle.std.proofs.Common.{◌≡◌, false}
use Rattle.document_lines.specs.Strings.{ArePlain}
use Rattle.document_lines.proofs.strings.is_plain.Given as goal

abbrev pub invariant-bytes : goal.invariant-bytes
invariant-bytes l = l.special ≡ false → ArePlain l.run 0 l.i
