use Rattle.std.proofs.Common.{[]}
use Rattle.bson_view.specs.Views.{parts_left}
use Rattle.document_lines.proofs.PlainDocuments.{AreRising}
use Rattle.document_lines.proofs.plain.are_rising.Given as goal

abbrev pub invariant-loop-elem : goal.invariant-loop-elem
invariant-loop-elem l = AreRising l.before (parts_left l.elem-iterator) → AreRising [] (parts_left l.elements)
