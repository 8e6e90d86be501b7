use Rattle.std.proofs.Common.{◌++◌, ◌∙◌, sym, ap}
use Rattle.bson_value.specs.Place.{Place}
use Rattle.doc_path.specs.Places.{keys}
use Rattle.doc_path.proofs.Keys.{same_test, no_test}
use Rattle.doc_path.proofs.touches.Place.same.Goals as goal

pub returns-in-Some : goal.returns-in-Some
returns-in-Some c =
    let a = ap keys (c.as_slice-2.ensures ∙ c.self.view_is) in
    let b = ap keys (c.as_slice.ensures ∙ c.other.view_is) in
    same_test _ _ c.in-Some.rest.now _ c.is_empty.ensures (sym b ∙ (c.in-Some.ensures.some ∙ ap (λ (p : Place). p ++ keys c.in-Some.rest.now) a))

pub returns-in-None : goal.returns-in-None
returns-in-None c =
    let a = ap keys (c.as_slice-2.ensures ∙ c.self.view_is) in
    let b = ap keys (c.as_slice.ensures ∙ c.other.view_is) in
    no_test _ _ (λ rest h. c.in-None.ensures.none rest (b ∙ (h ∙ ap (λ (p : Place). p ++ rest) (sym a))))
