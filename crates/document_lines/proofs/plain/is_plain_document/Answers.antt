use Rattle.bson_view.specs.Views.{elem_value, parts_left}
use Rattle.document_lines.proofs.InOrder.{of_document}
use Rattle.document_lines.proofs.PlainDocuments.{plain_document}
use Rattle.document_lines.proofs.plain.is_plain_document.Goals as goal

pub are_rising-requires : goal.are_rising-requires
are_rising-requires c =
    let e = c.args.elem.now in
    let k = of_document e.tag e.value.now (elem_value e) c.spells.ensures.spelled (parts_left c.elements.result) c.requires c.elements.ensures in
    k.distinct

pub returns : goal.returns
returns c plain =
    let e = c.args.elem.now in
    plain_document e.tag e.value.now (elem_value e) c.spells.ensures.spelled (parts_left c.elements.result) c.requires c.elements.ensures c.are_bytes.ensures (c.are_rising.ensures plain)
