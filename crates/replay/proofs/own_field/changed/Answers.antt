use Rattle.std.proofs.Common.{ℕ, List, option_map, subst, sym, Bor, Option}
use Rattle.std.specs.Prelude.{◌↔◌, IfOk, IsSome}
use Rattle.bson_view.specs.declared.elem.Elem.{Elem}
use Rattle.bson_view.specs.Views.{document, elem_value}
use Rattle.spliced_documents.specs.Splicing.{FitsLeaf}
use Rattle.replay.specs.Splicing.{FitsWith}
use Rattle.replay.proofs.own_field.changed.Goals as goal

pub returns-in-Some-clause-fits : goal.returns-in-Some-clause-fits
returns-in-Some-clause-fits c =
    let k = c.args.name.now in
    let r = c.with_element.result in
    let here = subst (λ (b : List ℕ). IfOk r (λ o. IsSome o ↔ FitsLeaf k (elem_value c.in-Some.elem.now) b)) c.requires.text c.with_element.ensures.fits in
    subst (λ (value : Option (Bor Elem)). IfOk r (λ o. IsSome o ↔ FitsWith k (option_map (λ (e : Bor Elem). elem_value e.now) value) (document c.args.view.now))) (sym c.in-Some.is) here
