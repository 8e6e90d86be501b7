use Rattle.std.proofs.Common.{ℕ, subst}
use Rattle.bson_value.specs.Spelling.{element}
use Rattle.bson_value.specs.WellFormed.{AreBytes}
use Rattle.bson_view.specs.Meaning.{AreValue}
use Rattle.bson_view.specs.Views.{document, elem_part, elem_value, view_bytes}
use Rattle.spliced_documents.specs.Splicing.{enclosed, IsItemPut}
use Rattle.spliced_documents.proofs.ItemPut.{is_inner, item_fits, new_made, none_fits}
use Rattle.spliced_documents.proofs.Leaves.{leaf_spells, leaf_typed}
use Rattle.spliced_documents.proofs.Nested.{all_fit, all_new}
use Rattle.spliced_documents.proofs.item.item_in.Goals as goal

pub returns-in_default-clause-fits : goal.returns-in_default-clause-fits
returns-in_default-clause-fits c =
    let f = c.args.field.now in
    let n = c.args.index in
    let b = view_bytes c.args.view.now in
    let d = document c.args.view.now in
    let h = c.args.held.now in
    let v = elem_value c.args.elem.now in
    let value = subst (λ (t : ℕ). AreValue t h.value.now (elem_value h)) c.requires.tag c.spells.ensures.spelled in
    let bytes = subst AreBytes c.bytes.ensures.bytes c.are_bytes.ensures in
    let none = none_fits f b (elem_value h) d c.around-outer.ensures.spelled c.requires.levels bytes c.requires.text (elem_part h) value h.short c.requires.value c.requires.held n v c.in_default.ensures.none in
    (λ some. cc, λ fits. absurd (none fits))

pub returns-clause-new : goal.returns-clause-new
returns-clause-new c =
    let f = c.args.field.now in
    let n = c.args.index in
    let b = view_bytes c.args.view.now in
    let d = document c.args.view.now in
    let h = c.args.held.now in
    let v = elem_value c.args.elem.now in
    let value = subst (λ (t : ℕ). AreValue t h.value.now (elem_value h)) c.requires.tag c.spells.ensures.spelled in
    let bytes = subst AreBytes c.bytes.ensures.bytes c.are_bytes.ensures in
    let e = c.args.elem.now in
    let front = c.in-Some.front.now in
    let name = c.in-Some.name.now in
    let rest = c.in-Some.rest.now in
    let kind = c.spells-2.ensures.spelled.kind in
    let spells = leaf_spells name v e.tag e.value.now c.spells-2.ensures.spelled c.spells-2.ensures.tag c.requires.leaf c.spells-2.ensures.leaf 98 in
    let typed = leaf_typed name v e.tag e.value.now c.spells-2.ensures.spelled c.spells-2.ensures.tag c.requires.leaf c.spells-2.ensures.leaf in
    let inner = is_inner f b (elem_value h) d c.around-outer.ensures.spelled c.requires.levels bytes c.requires.text (elem_part h) value h.short c.requires.value c.requires.held
    n e.tag e.value.now v c.requires.leaf spells kind typed front name rest c.in-Some.ensures.parted in
    let new = new_made f b (elem_value h) d c.around-outer.ensures.spelled c.requires.levels bytes c.requires.text (elem_part h) value h.short c.requires.value c.requires.held
    n e.tag e.value.now v c.requires.leaf spells kind typed front name rest c.in-Some.ensures.parted in
    all_new f 4 (enclosed front (element (name, (e.tag, e.value.now))) rest) _ b inner c.around-outer.result.0.now c.around-outer.result.1.now c.around-outer.ensures.front c.around-outer.ensures.rest (IsItemPut f n v d) d new c.copied_below.result c.copied_below.ensures.bytes c.copied_below.ensures.fits

pub returns-clause-fits : goal.returns-clause-fits
returns-clause-fits c =
    let f = c.args.field.now in
    let n = c.args.index in
    let b = view_bytes c.args.view.now in
    let d = document c.args.view.now in
    let h = c.args.held.now in
    let v = elem_value c.args.elem.now in
    let value = subst (λ (t : ℕ). AreValue t h.value.now (elem_value h)) c.requires.tag c.spells.ensures.spelled in
    let bytes = subst AreBytes c.bytes.ensures.bytes c.are_bytes.ensures in
    let e = c.args.elem.now in
    let front = c.in-Some.front.now in
    let name = c.in-Some.name.now in
    let rest = c.in-Some.rest.now in
    let kind = c.spells-2.ensures.spelled.kind in
    let spells = leaf_spells name v e.tag e.value.now c.spells-2.ensures.spelled c.spells-2.ensures.tag c.requires.leaf c.spells-2.ensures.leaf 98 in
    let typed = leaf_typed name v e.tag e.value.now c.spells-2.ensures.spelled c.spells-2.ensures.tag c.requires.leaf c.spells-2.ensures.leaf in
    let inner = is_inner f b (elem_value h) d c.around-outer.ensures.spelled c.requires.levels bytes c.requires.text (elem_part h) value h.short c.requires.value c.requires.held
    n e.tag e.value.now v c.requires.leaf spells kind typed front name rest c.in-Some.ensures.parted in
    let fits = all_fit f 4 (enclosed front (element (name, (e.tag, e.value.now))) rest) _ b inner c.around-outer.result.0.now c.around-outer.result.1.now c.around-outer.ensures.front c.around-outer.ensures.rest c.copied_below.result c.copied_below.ensures.fits in
    item_fits f b (elem_value h) d c.around-outer.ensures.spelled c.requires.levels bytes c.requires.text (elem_part h) value h.short c.requires.value c.requires.held
    n e.tag e.value.now v c.requires.leaf spells kind typed front name rest c.in-Some.ensures.parted c.copied_below.result fits
