use Rattle.bson_view.specs.Views.{parts_left}
use Rattle.spliced_documents.proofs.Counting.{Counts}
use Rattle.spliced_documents.proofs.item.parted_at.Given as goal

abbrev pub invariant-loop-elem : goal.invariant-loop-elem
invariant-loop-elem l = Counts l.index l.bytes (parts_left l.elements) (parts_left l.elem-iterator) l.start l.ahead
