use Rattle.std.proofs.Common.{ℕ, List, ap, subst, ◌∙◌}
use Rattle.bson_value.specs.Spelling.{element}
use Rattle.bson_value.specs.WellFormed.{AreBytes}
use Rattle.bson_view.specs.Meaning.{AreValue}
use Rattle.bson_view.specs.Views.{document, elem_value, view_bytes}
use Rattle.spliced_documents.specs.Splicing.{enclosed, spliced, IsPutBelow}
use Rattle.spliced_documents.proofs.Leaves.{leaf_field, leaf_placed}
use Rattle.spliced_documents.proofs.Nested.{all_fit, all_made, all_new, found_name, one_made}
use Rattle.spliced_documents.proofs.Whole.{enclosed_is}
use Rattle.spliced_documents.proofs.element_below.copy_in.Goals as goal

pub returns-clause-bytes : goal.returns-clause-bytes
returns-clause-bytes c =
    let f = c.args.field.now in
    let k = c.args.name.now in
    let b = view_bytes c.args.view.now in
    let e = c.args.elem.now in
    let v = elem_value e in
    let inner = c.args.held.now.value.now in
    let front = c.around_in-inner.result.0.now in
    let rest = c.around_in-inner.result.1.now in
    let own = element (k, (e.tag, e.value.now)) in
    let named = element (c.as_bytes.result.now, (e.tag, e.value.now)) in
    let is_own = ap (λ (n : List ℕ). enclosed front (element (n, (e.tag, e.value.now))) rest) c.as_bytes.ensures.value in
    let is_spliced = leaf_placed k v e.tag e.value.now c.spells-2.ensures.spelled c.spells-2.ensures.tag c.requires.leaf c.spells-2.ensures.leaf inner in
    let is_inner = is_own ∙ enclosed_is k own inner front rest c.around_in-inner.ensures.front c.around_in-inner.ensures.rest ∙ is_spliced in
    all_made f 3 (enclosed front named rest) (spliced k v inner) b is_inner c.around-outer.result.0.now c.around-outer.result.1.now c.around-outer.ensures.front c.around-outer.ensures.rest c.copied_below.result c.copied_below.ensures.bytes

pub returns-clause-fits : goal.returns-clause-fits
returns-clause-fits c =
    let f = c.args.field.now in
    let k = c.args.name.now in
    let b = view_bytes c.args.view.now in
    let e = c.args.elem.now in
    let v = elem_value e in
    let inner = c.args.held.now.value.now in
    let front = c.around_in-inner.result.0.now in
    let rest = c.around_in-inner.result.1.now in
    let own = element (k, (e.tag, e.value.now)) in
    let named = element (c.as_bytes.result.now, (e.tag, e.value.now)) in
    let is_own = ap (λ (n : List ℕ). enclosed front (element (n, (e.tag, e.value.now))) rest) c.as_bytes.ensures.value in
    let is_spliced = leaf_placed k v e.tag e.value.now c.spells-2.ensures.spelled c.spells-2.ensures.tag c.requires.leaf c.spells-2.ensures.leaf inner in
    let is_inner = is_own ∙ enclosed_is k own inner front rest c.around_in-inner.ensures.front c.around_in-inner.ensures.rest ∙ is_spliced in
    all_fit f 3 (enclosed front named rest) (spliced k v inner) b is_inner c.around-outer.result.0.now c.around-outer.result.1.now c.around-outer.ensures.front c.around-outer.ensures.rest c.copied_below.result c.copied_below.ensures.fits

pub returns-clause-new : goal.returns-clause-new
returns-clause-new c =
    let f = c.args.field.now in
    let k = c.args.name.now in
    let b = view_bytes c.args.view.now in
    let e = c.args.elem.now in
    let v = elem_value e in
    let inner = c.args.held.now.value.now in
    let front = c.around_in-inner.result.0.now in
    let rest = c.around_in-inner.result.1.now in
    let own = element (k, (e.tag, e.value.now)) in
    let named = element (c.as_bytes.result.now, (e.tag, e.value.now)) in
    let is_own = ap (λ (n : List ℕ). enclosed front (element (n, (e.tag, e.value.now))) rest) c.as_bytes.ensures.value in
    let is_spliced = leaf_placed k v e.tag e.value.now c.spells-2.ensures.spelled c.spells-2.ensures.tag c.requires.leaf c.spells-2.ensures.leaf inner in
    let is_inner = is_own ∙ enclosed_is k own inner front rest c.around_in-inner.ensures.front c.around_in-inner.ensures.rest ∙ is_spliced in
    let h = c.args.held.now in
    let value = subst (λ (t : ℕ). AreValue t inner (elem_value h)) c.requires.tag c.spells.ensures.spelled in
    let bytes = subst AreBytes c.bytes.ensures.bytes c.are_bytes.ensures in
    let d = document c.args.view.now in
    let name = found_name b d c.around-outer.ensures.spelled f (elem_value h) c.requires.value in
    let one = leaf_field k v e.tag e.value.now c.spells-2.ensures.spelled c.spells-2.ensures.tag c.requires.leaf c.spells-2.ensures.leaf 98 c.requires.name in
    let new = one_made f inner b (elem_value h) d c.around-outer.ensures.spelled c.requires.levels bytes value h.short c.requires.value c.requires.held name k v own one is_spliced in
    all_new f 3 (enclosed front named rest) (spliced k v inner) b is_inner c.around-outer.result.0.now c.around-outer.result.1.now c.around-outer.ensures.front c.around-outer.ensures.rest (IsPutBelow f k v d) d new c.copied_below.result c.copied_below.ensures.bytes c.copied_below.ensures.fits
