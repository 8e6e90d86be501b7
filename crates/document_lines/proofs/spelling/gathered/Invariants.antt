use Rattle.std.proofs.Common.{◌≡◌, ◌++◌, map}
use Rattle.bson_view.specs.Views.{elem_part, parts_left}
use Rattle.document_lines.proofs.spelling.gathered.Given as goal

abbrev pub invariant-loop-elem : goal.invariant-loop-elem
invariant-loop-elem l = map elem_part l.gathered.items ++ parts_left l.elem-iterator ≡ parts_left l.elements
