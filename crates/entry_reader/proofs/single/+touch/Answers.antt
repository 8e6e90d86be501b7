use Rattle.std.proofs.Common.{◌≡◌, ◌-◌, List, ◌∷◌, ◌++◌, [], refl, sym, ap, ◌∙◌, subst}
use Rattle.std.specs.Prelude.{Option, option_map, IfSome}
use Rattle.std.specs.Option.{option_copied}
use Rattle.bson_value.specs.declared.value.Value.{out-Value}
use Rattle.bson_view.specs.Views.{document, elem_value}
use Rattle.doc_path.specs.declared.parts.Part.{Part}
use Rattle.doc_path.specs.declared.parts.Part.TheVariants.{Name}
use Rattle.entry_reader.specs.Singles.{front_of}
use Rattle.entry_reader.proofs.Singles.{if_below, if_says, object_is}
use Rattle.entry_reader.proofs.Elements.{if_says_of, if_into}
use Rattle.entry_reader.proofs.single.+touch.Goals as goal

pub array_touch-returns-in_default-index_below : goal.array_touch-returns-in_default-index_below
array_touch-returns-in_default-index_below t c =
    if_says_of c.args.front (c.in-Some.field.name.now, elem_value c.in-Some.field) c.args.levels (document c.args.diff.now) c.element_touch.result c.in-Some.ensures c.element_touch.ensures

pub array_touch-returns : goal.array_touch-returns
array_touch-returns t c =
    let w = elem_value c.in-Some.field in
    let below = document c.in-Some-document.below in
    let is = object_is (out-Value w) below (sym (ap (option_map document) c.in-Some-document.is) ∙ c.document.ensures) in
    if_into c.args.front c.in_ok-place.place c.in-Some.field.name.now w c.in-Some-index_below.at c.args.levels (document c.args.diff.now) below c.touch_behind.result
    (sym c.in-Some-index_below.is ∙ c.index_below.ensures) c.in_ok-place.ensures is c.in-Some.ensures c.touch_behind.ensures

pub touch_behind-returns-in_default-behind_s : goal.touch_behind-returns-in_default-behind_s
touch_behind-returns-in_default-behind_s t c =
    if_says c.args.front c.args.levels (document c.args.diff.now) ((c.in-Some.field.name.now, elem_value c.in-Some.field) ∷ []) c.field_touch.result c.if-levels-eq0.false c.in-Some.ensures c.field_touch.ensures

pub touch_behind-returns : goal.touch_behind-returns
touch_behind-returns t c =
    let k = c.in-Some-behind_s.name.now in
    let w = elem_value c.in-Some.field in
    let below = document c.in-Some-document.below in
    let place : c.in-Some-2.place ≡ front_of c.args.front ++ Name k ∷ [] = subst (λ (o : Option (List Part)). IfSome o (λ p. p ≡ front_of c.args.front ++ Name k ∷ [])) c.in-Some-2.is c.in_ok-place.ensures in
    let is = object_is (out-Value w) below (sym (ap (option_map document) c.in-Some-document.is) ∙ c.document.ensures) in
    if_below c.args.front c.in-Some-2.place c.in-Some.field.name.now k w c.args.levels (c.args.levels - 1) (document c.args.diff.now) below c.touch_behind.result
    c.if-levels-eq0.false refl c.in-Some.ensures (sym (ap option_copied c.in-Some-behind_s.is) ∙ c.behind_s.ensures) place is c.touch_behind.ensures
