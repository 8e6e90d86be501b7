use Rattle.bson_view.specs.Views.{parts_left}
use Rattle.spliced_documents.proofs.Walking.{Stands}
use Rattle.spliced_documents.proofs.pieces.parted.Given as goal

abbrev pub invariant-loop-elem : goal.invariant-loop-elem
invariant-loop-elem l = Stands l.name l.bytes (parts_left l.elements) (parts_left l.elem-iterator) l.start
