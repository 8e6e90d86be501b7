use Rattle.std.proofs.Common.{◌≡◌, drop}
use Rattle.std.specs.Prelude.{Some}
use Rattle.bson_view.specs.Paths.{value_along, part_along}
use Rattle.bson_view.specs.Views.{elem_part, elem_value}
use Rattle.bson_view.proofs.elem.Elem.along.Given as goal

abbrev pub invariant-loop-name : goal.invariant-loop-name
invariant-loop-name l =
    (value_along (Some (elem_value l.self)) l.names ≡ value_along (Some (elem_value l.elem)) (drop l.name-index l.names))
    × (part_along (Some (elem_part l.self)) l.names ≡ part_along (Some (elem_part l.elem)) (drop l.name-index l.names))
