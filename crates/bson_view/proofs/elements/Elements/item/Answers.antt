use Rattle.std.proofs.Common.{ap, sym, ◌∙◌, arith}
use Rattle.bson_view.specs.Paths.{part_at_index}
use Rattle.bson_view.specs.Views.{elem_part, parts_left}
use Rattle.bson_view.proofs.Bodies.{nth_is, no_item, few_parts, some_checked}
use Rattle.bson_view.proofs.elements.Elements.item.Goals as goal

pub returns-in-Some-clause-part : goal.returns-in-Some-clause-part
returns-in-Some-clause-part c =
    nth_is elem_part parts_left c.args.self c.in-Some.index c.nth.result c.nth.new.self c.nth.ensures.ran ∙ ap (part_at_index (parts_left c.args.self)) (sym c.in-Some.ensures.some)

pub returns-in-Some-clause-spelled : goal.returns-in-Some-clause-spelled
returns-in-Some-clause-spelled c = some_checked c.nth.result

pub returns-in-None-clause-part : goal.returns-in-None-clause-part
returns-in-None-clause-part c = sym (no_item (parts_left c.args.self) _ _ c.in-None.ensures.none (omega (arith, few_parts c.args.self.rest.now, c.ranges.self.0)))
