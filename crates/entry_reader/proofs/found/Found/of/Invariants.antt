use Rattle.bson_view.specs.Views.{document, parts_left}
use Rattle.entry_reader.proofs.Walking.{Stands}
use Rattle.entry_reader.proofs.found.Found.of.Given as goal

abbrev pub invariant-loop-elem : goal.invariant-loop-elem
invariant-loop-elem l = Stands (document l.view) l.found (parts_left l.elem-iterator)
