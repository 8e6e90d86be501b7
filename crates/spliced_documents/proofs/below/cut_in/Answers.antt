use Rattle.std.proofs.Common.{ℕ, [], subst}
use Rattle.bson_value.specs.WellFormed.{AreBytes}
use Rattle.bson_view.specs.Meaning.{AreValue}
use Rattle.bson_view.specs.Views.{document, elem_value, view_bytes}
use Rattle.spliced_documents.specs.Splicing.{cut, enclosed, IsCutBelow}
use Rattle.spliced_documents.proofs.Nested.{all_fit, all_made, all_new, cut_made, found_name}
use Rattle.spliced_documents.proofs.Whole.{enclosed_is}
use Rattle.spliced_documents.proofs.below.cut_in.Goals as goal

pub returns-clause-bytes : goal.returns-clause-bytes
returns-clause-bytes c =
    let f = c.args.field.now in
    let k = c.args.name.now in
    let b = view_bytes c.args.view.now in
    let e = c.args.elem.now in
    let inner = e.value.now in
    let front = c.around_in-inner.result.0.now in
    let rest = c.around_in-inner.result.1.now in
    let is_front = c.around-outer.ensures.front in
    let is_rest = c.around-outer.ensures.rest in
    let is_inner = enclosed_is k [] inner front rest c.around_in-inner.ensures.front c.around_in-inner.ensures.rest in
    all_made f 3 (enclosed front [] rest) (cut k inner) b is_inner c.around-outer.result.0.now c.around-outer.result.1.now is_front is_rest c.joined_below.result c.joined_below.ensures.bytes

pub returns-clause-fits : goal.returns-clause-fits
returns-clause-fits c =
    let f = c.args.field.now in
    let k = c.args.name.now in
    let b = view_bytes c.args.view.now in
    let e = c.args.elem.now in
    let inner = e.value.now in
    let front = c.around_in-inner.result.0.now in
    let rest = c.around_in-inner.result.1.now in
    let is_front = c.around-outer.ensures.front in
    let is_rest = c.around-outer.ensures.rest in
    let is_inner = enclosed_is k [] inner front rest c.around_in-inner.ensures.front c.around_in-inner.ensures.rest in
    all_fit f 3 (enclosed front [] rest) (cut k inner) b is_inner c.around-outer.result.0.now c.around-outer.result.1.now is_front is_rest c.joined_below.result c.joined_below.ensures.fits

pub returns-clause-new : goal.returns-clause-new
returns-clause-new c =
    let f = c.args.field.now in
    let k = c.args.name.now in
    let b = view_bytes c.args.view.now in
    let e = c.args.elem.now in
    let inner = e.value.now in
    let front = c.around_in-inner.result.0.now in
    let rest = c.around_in-inner.result.1.now in
    let is_front = c.around-outer.ensures.front in
    let is_rest = c.around-outer.ensures.rest in
    let is_inner = enclosed_is k [] inner front rest c.around_in-inner.ensures.front c.around_in-inner.ensures.rest in
    let value = subst (λ (t : ℕ). AreValue t inner (elem_value e)) c.requires.tag c.spells.ensures.spelled in
    let bytes = subst AreBytes c.bytes.ensures.bytes c.are_bytes.ensures in
    let d = document c.args.view.now in
    let new = cut_made f inner b (elem_value e) d c.around-outer.ensures.spelled c.requires.levels bytes value e.short c.requires.value c.requires.held (found_name b d c.around-outer.ensures.spelled f (elem_value e) c.requires.value) k in
    all_new f 3 (enclosed front [] rest) (cut k inner) b is_inner c.around-outer.result.0.now c.around-outer.result.1.now is_front is_rest (IsCutBelow f k d) d new c.joined_below.result c.joined_below.ensures.bytes c.joined_below.ensures.fits
