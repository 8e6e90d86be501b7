use Rattle.std.proofs.Common.{◌≡◌, List, ℕ, [], ◌∷◌, ◌++◌, map, drop, refl, sym, ap, subst, ◌∙◌, rules, arith}
use Rattle.std.specs.Prelude.{OnOk}
use Rattle.bson_value.specs.Alike.{ordered}
use Rattle.bson_view.specs.Parts.{values_of}
use Rattle.bson_view.specs.Views.{elem_value, parts_left}
use Rattle.json_text.specs.Print.{escaped, quoted, with_commas}
use Rattle.document_lines.specs.Elems.{in_order, ordered_elems}
use Rattle.document_lines.specs.Json.{json_of, field_json}
use Rattle.document_lines.proofs.InOrder.{of_document, of_array, of_scoped, is_leaf, ordered_is}
use Rattle.document_lines.proofs.JsonPieces.{object_json, array_json, closed, no_fields_left, scoped_put, text_between}
use Rattle.document_lines.proofs.json.+json.Goals as goal

pub put_document-returns : goal.put_document-returns
put_document-returns t c =
    let fields = c.as_slice-fields.result.now in
    let named : ordered_elems fields ≡ in_order (parts_left c.args.elements) = ap ordered_elems c.as_slice-fields.ensures.value ∙ c.in_ok-sorted.ensures.order in
    closed c.loop-elem.first (map field_json (ordered_elems (drop c.loop-elem.elem-index fields))) c.args.out.now.items c.loop-elem.out.items _ (with_commas (map field_json (ordered_elems fields))) 123 125
    (no_fields_left fields c.loop-elem.elem-index (omega arith)) c.loop-elem.invariant c.in_ok-push-2.ensures.items
    ∙ ap (λ z. c.args.out.now.items ++ z) (ap (λ fs. 123 ∷ (with_commas (map field_json fs) ++ 125 ∷ [])) named ∙ sym (object_json (in_order (parts_left c.args.elements))))

pub put_items-returns : goal.put_items-returns
put_items-returns t c =
    let left = parts_left c.loop-elem.elem-iterator in
    closed c.loop-elem.first (map json_of (map ordered (values_of left))) c.args.out.now.items c.loop-elem.out.items _ (with_commas (map json_of (map ordered (values_of (parts_left c.args.elements))))) 91 93
    (ap (λ ps. map json_of (map ordered (values_of ps))) c.in-None.ensures.steps.0) c.loop-elem.invariant.bytes c.in_ok-push-2.ensures.items
    ∙ ap (λ z. c.args.out.now.items ++ z) (sym (array_json (map ordered (values_of (parts_left c.args.elements)))))

pub put_scoped-put_document-requires : goal.put_scoped-put_document-requires
put_scoped-put_document-requires t c =
    let e = c.args.elem.now in
    let k = of_scoped e.tag e.value.now (elem_value e) c.spells.ensures.spelled c.scope.result.0.now (parts_left c.scope.result.1) c.scope.ensures in
    (omega (arith, k.fits), (k.distinct, k.fits))

pub put_scoped-returns : goal.put_scoped-returns
unfolding escaped
put_scoped-returns t c =
    let e = c.args.elem.now in
    let ps = parts_left c.scope.result.1 in
    let k = of_scoped e.tag e.value.now (elem_value e) c.spells.ensures.spelled c.scope.result.0.now ps c.scope.ensures in
    scoped_put k.code (in_order ps) c.args.out.now.items _ _ _ _ _ _ _ _ _ refl (ap quoted (text_between c.scope.result.0.now k.code k.text_is).1) refl refl
    c.in_ok-extend_from_slice.ensures.items c.in_ok-put_quoted.ensures c.in_ok-extend_from_slice-2.ensures.items c.in_ok-put_document.ensures c.in_ok-push.ensures.items
    ∙ ap (λ z. c.args.out.now.items ++ z) (sym (ap json_of k.is))

pub put_value-put_document-requires : goal.put_value-put_document-requires
put_value-put_document-requires t c =
    let e = c.args.elem.now in
    let k = of_document e.tag e.value.now (elem_value e) c.spells.ensures.spelled (parts_left c.elements.result) c.in-3.is c.elements.ensures in
    (omega (arith, k.fits), (k.distinct, k.fits))

pub put_value-returns-in-3 : goal.put_value-returns-in-3
put_value-returns-in-3 t c =
    let e = c.args.elem.now in
    let k = of_document e.tag e.value.now (elem_value e) c.spells.ensures.spelled (parts_left c.elements.result) c.in-3.is c.elements.ensures in
    subst (λ (z : List ℕ). OnOk c.put_document.result (c.put_document.new.out.items ≡ c.args.out.now.items ++ z)) (sym (ap json_of k.is)) c.put_document.ensures

pub put_value-returns-in-4 : goal.put_value-returns-in-4
put_value-returns-in-4 t c =
    let e = c.args.elem.now in
    let k = of_array e.tag e.value.now (elem_value e) c.spells.ensures.spelled (parts_left c.elements-in-4.result) c.in-4.is c.elements-in-4.ensures in
    subst (λ (z : List ℕ). OnOk c.put_items.result (c.put_items.new.out.items ≡ c.args.out.now.items ++ z)) (sym (ap json_of k.is)) c.put_items.ensures

pub put_value-returns-in_default : goal.put_value-returns-in_default
put_value-returns-in_default t c =
    let e = c.args.elem.now in
    let l = is_leaf e.tag e.value.now (elem_value e) c.spells.ensures.spelled (search rules) (search rules) (search rules) in
    subst (λ (z : List ℕ). OnOk c.put_leaf.result (c.put_leaf.new.out.items ≡ c.args.out.now.items ++ z)) (sym (ap json_of (ordered_is (elem_value e) l))) c.put_leaf.ensures
