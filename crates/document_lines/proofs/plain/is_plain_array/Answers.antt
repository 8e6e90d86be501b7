use Rattle.bson_view.specs.Views.{elem_value, parts_left}
use Rattle.document_lines.proofs.PlainArrays.{plain_array}
use Rattle.document_lines.proofs.plain.is_plain_array.Goals as goal

pub returns : goal.returns
returns c plain =
    let e = c.args.elem.now in
    plain_array e.tag e.value.now (elem_value e) c.spells.ensures.spelled (parts_left c.elements.result) c.requires c.elements.ensures c.are_bytes.ensures (c.are_plain.ensures plain)
