use Rattle.bson_view.specs.Views.{elem_value}
use Rattle.document_lines.proofs.PlainArrays.{ordered_item}
use Rattle.document_lines.proofs.plain.is_element_in_order.Goals as goal

pub returns-in-3 : goal.returns-in-3
returns-in-3 c plain =
    let e = c.args.elem.now in
    ordered_item e.name.now e.tag e.value.now (elem_value e) c.spells.ensures.tag (c.is_plain_document.ensures plain)

pub returns-in-4 : goal.returns-in-4
returns-in-4 c plain =
    let e = c.args.elem.now in
    ordered_item e.name.now e.tag e.value.now (elem_value e) c.spells.ensures.tag (c.is_plain_array.ensures plain)
