use Rattle.std.proofs.Common.{◌≡◌}
use Rattle.bson_view.specs.Paths.{part_named}
use Rattle.bson_view.specs.Views.{parts_left}
use Rattle.bson_view.proofs.elements.Elements.named.Given as goal

abbrev pub invariant-loop-elem : goal.invariant-loop-elem
invariant-loop-elem l =
    (goal.iterator-loop-elem).can_next l.elem-iterator × (goal.iterator-loop-elem).is_finite l.elem-iterator × (part_named l.name (parts_left l.self) ≡ part_named l.name (parts_left l.elem-iterator))
