use Rattle.std.proofs.Common.{◌≡◌, List, ℕ, [], ◌∷◌, ◌++◌, length, sym, ap, subst, ◌∙◌, refl, rules, arith}
use Rattle.std.specs.Prelude.{OnOk}
use Rattle.bson_value.specs.Alike.{ordered}
use Rattle.bson_value.specs.Spelling.{document_text, spelled}
use Rattle.bson_view.specs.Views.{elem_value, parts_left}
use Rattle.document_lines.specs.Elems.{in_order}
use Rattle.document_lines.proofs.Fields.{fewer_parts}
use Rattle.document_lines.proofs.InOrder.{of_document, of_array, of_scoped, document_spelled, array_spelled, scoped_spelled, is_leaf, ordered_is, element_put, counted_put}
use Rattle.document_lines.proofs.spelling.+spell.Goals as goal

pub put_array_value-put_array-requires : goal.put_array_value-put_array-requires
put_array_value-put_array-requires t c =
    let e = c.args.elem.now in
    let k = of_array e.tag e.value.now (elem_value e) c.spells.ensures.spelled (parts_left c.elements.result) c.requires c.elements.ensures in
    (omega (arith, k.fits), k.fits)

pub put_array_value-returns : goal.put_array_value-returns
put_array_value-returns t c =
    let e = c.args.elem.now in
    let k = of_array e.tag e.value.now (elem_value e) c.spells.ensures.spelled (parts_left c.elements.result) c.requires c.elements.ensures in
    subst (λ (z : List ℕ). OnOk c.put_array.result (c.put_array.new.out.items ≡ c.args.out.now.items ++ z)) (sym (array_spelled _ _ _ k)) c.put_array.ensures

pub put_document_value-put_document-requires : goal.put_document_value-put_document-requires
put_document_value-put_document-requires t c =
    let e = c.args.elem.now in
    let k = of_document e.tag e.value.now (elem_value e) c.spells.ensures.spelled (parts_left c.elements.result) c.requires c.elements.ensures in
    (omega (arith, k.fits), (k.distinct, k.fits))

pub put_document_value-returns : goal.put_document_value-returns
put_document_value-returns t c =
    let e = c.args.elem.now in
    let k = of_document e.tag e.value.now (elem_value e) c.spells.ensures.spelled (parts_left c.elements.result) c.requires c.elements.ensures in
    subst (λ (z : List ℕ). OnOk c.put_document.result (c.put_document.new.out.items ≡ c.args.out.now.items ++ z)) (sym (document_spelled _ _ _ k)) c.put_document.ensures

pub put_element-returns : goal.put_element-returns
put_element-returns t c =
    let e = c.args.elem.now in
    let out = c.args.out.now.items in
    let before : c.push-2.new.self.items ≡ ((out ++ e.tag ∷ []) ++ c.args.name.now) ++ 0 ∷ [] =
    c.in_ok-push-2.ensures.items ∙ ap (λ z. z ++ 0 ∷ []) (c.in_ok-extend_from_slice.ensures.items ∙ ap (λ z. z ++ c.args.name.now) c.in_ok-push.ensures.items) in
    subst (λ (z : List ℕ). OnOk c.put_value.result (c.put_value.new.out.items ≡ z)) (element_put out c.args.name.now e.tag (elem_value e) c.spells.ensures.tag)
    (subst (λ (z : List ℕ). OnOk c.put_value.result (c.put_value.new.out.items ≡ z ++ spelled (ordered (elem_value e)))) before c.put_value.ensures)

pub put_items-overflow_add-index : goal.put_items-overflow_add-index
put_items-overflow_add-index t c = omega (arith, c.loop-elem.invariant.count, ap length c.in-Some.ensures.steps, fewer_parts (parts_left c.args.elements), c.requires, c.ranges.room)

pub put_scoped-put_document-requires : goal.put_scoped-put_document-requires
put_scoped-put_document-requires t c =
    let e = c.args.elem.now in
    let k = of_scoped e.tag e.value.now (elem_value e) c.spells.ensures.spelled c.scope.result.0.now (parts_left c.scope.result.1) c.scope.ensures in
    (omega (arith, k.fits), (k.distinct, k.fits))

pub put_scoped-returns : goal.put_scoped-returns
put_scoped-returns t c =
    let e = c.args.elem.now in
    let k = of_scoped e.tag e.value.now (elem_value e) c.spells.ensures.spelled c.scope.result.0.now (parts_left c.scope.result.1) c.scope.ensures in
    counted_put c.args.out.now.items _ _ _ c.patch.new.out.items _ c.scope.result.0.now (document_text (in_order (parts_left c.scope.result.1))) c.len-start.result
    (search rules) c.in_ok-extend_from_slice.ensures.items refl c.in_ok-extend_from_slice-2.ensures.items c.in_ok-put_document.ensures c.patch.ensures
    ∙ ap (λ z. c.args.out.now.items ++ z) (sym (scoped_spelled _ _ _ _ k))

pub put_value-returns-in_ok-extend_from_slice-in_default :
    goal.put_value-returns-in_ok-extend_from_slice-in_default
put_value-returns-in_ok-extend_from_slice-in_default t c =
    let e = c.args.elem.now in
    let l = is_leaf e.tag e.value.now (elem_value e) c.spells.ensures.spelled (search rules) (search rules) (search rules) in
    c.in_ok-extend_from_slice-in_default.ensures.items ∙ ap (λ z. c.args.out.now.items ++ z) (c.spells.ensures.leaf l ∙ ap spelled (sym (ordered_is (elem_value e) l)))
