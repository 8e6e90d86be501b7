use Rattle.std.proofs.Common.{ℕ, List, option_map, subst, sym, Bor, Option}
use Rattle.std.specs.Prelude.{◌↔◌, IfOk, IsSome}
use Rattle.bson_view.specs.declared.elem.Elem.{Elem}
use Rattle.bson_view.specs.Views.{document, elem_value}
use Rattle.spliced_documents.specs.Splicing.{FitsCutBelow, FitsLeafBelow}
use Rattle.replay.specs.Splicing.{FitsWithBelow}
use Rattle.replay.proofs.field_below.changed_below.Goals as goal

pub returns-in-Some-clause-fits : goal.returns-in-Some-clause-fits
returns-in-Some-clause-fits c =
    let f = c.args.field.now in
    let k = c.args.name.now in
    let r = c.with_element_below.result in
    let here = subst (λ (b : List ℕ). IfOk r (λ o. IsSome o ↔ FitsLeafBelow f k (elem_value c.in-Some.elem.now) b)) c.requires.text c.with_element_below.ensures.fits in
    subst (λ (value : Option (Bor Elem)). IfOk r (λ o. IsSome o ↔ FitsWithBelow f k (option_map (λ (e : Bor Elem). elem_value e.now) value) (document c.args.view.now))) (sym c.in-Some.is) here

pub returns-in-None-clause-fits : goal.returns-in-None-clause-fits
returns-in-None-clause-fits c =
    let f = c.args.field.now in
    let k = c.args.name.now in
    let r = c.without_field_below.result in
    let here = subst (λ (b : List ℕ). IfOk r (λ o. IsSome o ↔ FitsCutBelow f k b)) c.requires.text c.without_field_below.ensures.fits in
    subst (λ (value : Option (Bor Elem)). IfOk r (λ o. IsSome o ↔ FitsWithBelow f k (option_map (λ (e : Bor Elem). elem_value e.now) value) (document c.args.view.now))) (sym c.in-None.is) here
