use Rattle.std.proofs.Common.{◌≡◌, drop}
use Rattle.std.specs.Prelude.{Some}
use Rattle.bson_view.specs.Held.{held_value}
use Rattle.bson_view.specs.Paths.{value_along}
use Rattle.bson_view.proofs.held.HeldValue.along.Given as goal

abbrev pub invariant-loop-name : goal.invariant-loop-name
invariant-loop-name l =
    value_along (Some (held_value l.self)) l.names ≡ value_along (Some (held_value l.value)) (drop l.name-index l.names)
