use Rattle.std.proofs.Common.{ℕ, List, ◌∷◌, [], ◌++◌, ap, subst, ◌∙◌}
use Rattle.bson_value.specs.Spelling.{element, spelling}
use Rattle.bson_value.specs.WellFormed.{AreBytes}
use Rattle.bson_view.specs.Meaning.{AreValue}
use Rattle.bson_view.specs.Parts.{elements_in}
use Rattle.bson_view.specs.Views.{document, elem_value, view_bytes}
use Rattle.spliced_documents.specs.Splicing.{enclosed, front_of, rest_of, spliced, IsPutBelow}
use Rattle.spliced_documents.proofs.Nested.{all_fit, all_made, all_new, found_name, put_made}
use Rattle.spliced_documents.proofs.Whole.{enclosed_is}
use Rattle.spliced_documents.proofs.below.put_in.Goals as goal

pub returns-clause-bytes : goal.returns-clause-bytes
returns-clause-bytes c =
    let f = c.args.field.now in
    let k = c.args.name.now in
    let b = view_bytes c.args.view.now in
    let e = c.args.elem.now in
    let inner = e.value.now in
    let front = c.around_in-inner.result.0.now in
    let rest = c.around_in-inner.result.1.now in
    let is_front = c.around-outer.ensures.front in
    let is_rest = c.around-outer.ensures.rest in
    let own = element (k, spelling c.args.value.now) in
    let is_first = c.around_in-inner.ensures.front ∙ ap (λ (n : List ℕ). front_of n (elements_in inner)) c.as_str.ensures.text in
    let is_last = c.around_in-inner.ensures.rest ∙ ap (λ (n : List ℕ). rest_of n (elements_in inner) ++ 0 ∷ []) c.as_str.ensures.text in
    let is_inner = enclosed_is k own inner front rest is_first is_last in
    all_made f 3 (enclosed front own rest) (spliced k c.args.value.now inner) b is_inner c.around-outer.result.0.now c.around-outer.result.1.now is_front is_rest c.counted_below.result c.counted_below.ensures.bytes

pub returns-clause-fits : goal.returns-clause-fits
returns-clause-fits c =
    let f = c.args.field.now in
    let k = c.args.name.now in
    let b = view_bytes c.args.view.now in
    let e = c.args.elem.now in
    let inner = e.value.now in
    let front = c.around_in-inner.result.0.now in
    let rest = c.around_in-inner.result.1.now in
    let is_front = c.around-outer.ensures.front in
    let is_rest = c.around-outer.ensures.rest in
    let own = element (k, spelling c.args.value.now) in
    let is_first = c.around_in-inner.ensures.front ∙ ap (λ (n : List ℕ). front_of n (elements_in inner)) c.as_str.ensures.text in
    let is_last = c.around_in-inner.ensures.rest ∙ ap (λ (n : List ℕ). rest_of n (elements_in inner) ++ 0 ∷ []) c.as_str.ensures.text in
    let is_inner = enclosed_is k own inner front rest is_first is_last in
    all_fit f 3 (enclosed front own rest) (spliced k c.args.value.now inner) b is_inner c.around-outer.result.0.now c.around-outer.result.1.now is_front is_rest c.counted_below.result c.counted_below.ensures.fits

pub returns-clause-new : goal.returns-clause-new
returns-clause-new c =
    let f = c.args.field.now in
    let k = c.args.name.now in
    let b = view_bytes c.args.view.now in
    let e = c.args.elem.now in
    let inner = e.value.now in
    let front = c.around_in-inner.result.0.now in
    let rest = c.around_in-inner.result.1.now in
    let is_front = c.around-outer.ensures.front in
    let is_rest = c.around-outer.ensures.rest in
    let own = element (k, spelling c.args.value.now) in
    let is_first = c.around_in-inner.ensures.front ∙ ap (λ (n : List ℕ). front_of n (elements_in inner)) c.as_str.ensures.text in
    let is_last = c.around_in-inner.ensures.rest ∙ ap (λ (n : List ℕ). rest_of n (elements_in inner) ++ 0 ∷ []) c.as_str.ensures.text in
    let is_inner = enclosed_is k own inner front rest is_first is_last in
    let value = subst (λ (t : ℕ). AreValue t inner (elem_value e)) c.requires.tag c.spells.ensures.spelled in
    let bytes = subst AreBytes c.bytes.ensures.bytes c.are_bytes.ensures in
    let d = document c.args.view.now in
    let new = put_made f inner b (elem_value e) d c.around-outer.ensures.spelled c.requires.levels bytes value e.short c.requires.value c.requires.held (found_name b d c.around-outer.ensures.spelled f (elem_value e) c.requires.value) k c.args.value.now c.are_well_formed.ensures.name c.are_well_formed.ensures.value c.requires.shallow in
    all_new f 3 (enclosed front own rest) (spliced k c.args.value.now inner) b is_inner c.around-outer.result.0.now c.around-outer.result.1.now is_front is_rest (IsPutBelow f k c.args.value.now d) d new c.counted_below.result c.counted_below.ensures.bytes c.counted_below.ensures.fits
