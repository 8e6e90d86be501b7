use Rattle.std.proofs.Common.{◌≡◌, inl, inr, ap, ◌∙◌, rules}
use Rattle.std.specs.Prelude.{None, option_map}
use Rattle.bson_view.specs.Parts.{part_value, elements_in}
use Rattle.bson_view.specs.Paths.{part_under}
use Rattle.bson_view.specs.Views.{elem_part}
use Rattle.bson_view.proofs.Bodies.{value_has, under_is, value_of_part}
use Rattle.bson_view.proofs.elem.Elem.under.Goals as goal

pub of_frame-requires : goal.of_frame-requires
of_frame-requires c = let e = c.args.self.now in record { elements = value_has e.tag e.value.now e.spelled (inl c.in-3.is); short = e.short }

pub of_frame-requires-in-4 : goal.of_frame-requires-in-4
of_frame-requires-in-4 c = let e = c.args.self.now in record { elements = value_has e.tag e.value.now e.spelled (inr c.in-4.is); short = e.short }

pub returns-in-3-clause-value : goal.returns-in-3-clause-value
returns-in-3-clause-value c =
    let e = c.args.self.now in
    let part : option_map elem_part c.named.result ≡ part_under e.tag (elements_in e.value.now) c.args.name.now = search rules in
    value_of_part c.named.result _ part ∙ under_is e.tag e.value.now c.args.name.now e.spelled

pub returns-in-4-clause-value : goal.returns-in-4-clause-value
returns-in-4-clause-value c =
    let e = c.args.self.now in
    let part : option_map elem_part c.item.result ≡ part_under e.tag (elements_in e.value.now) c.args.name.now = search rules in
    value_of_part c.item.result _ part ∙ under_is e.tag e.value.now c.args.name.now e.spelled

pub returns-in_default-clause-value : goal.returns-in_default-clause-value
returns-in_default-clause-value c =
    let e = c.args.self.now in
    let part : None ≡ part_under e.tag (elements_in e.value.now) c.args.name.now = search rules in
    ap (option_map part_value) part ∙ under_is e.tag e.value.now c.args.name.now e.spelled
