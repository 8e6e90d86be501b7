use Rattle.std.proofs.Common.{rules}
use Rattle.bson_view.specs.Views.{elem_value}
use Rattle.document_lines.proofs.InOrder.{is_leaf}
use Rattle.document_lines.proofs.PlainArrays.{plain_item}
use Rattle.document_lines.proofs.plain.is_leaf.Goals as goal

pub returns-in_default-2 : goal.returns-in_default-2
returns-in_default-2 c is =
    let e = c.args.elem.now in
    let l = is_leaf e.tag e.value.now (elem_value e) c.spells.ensures.spelled (search rules) (search rules) (search rules) in
    plain_item e.name.now e.tag e.value.now (elem_value e) c.spells.ensures.tag l (c.spells.ensures.leaf l)

pub returns-in_default : goal.returns-in_default
returns-in_default c is =
    let e = c.args.elem.now in
    let l = is_leaf e.tag e.value.now (elem_value e) c.spells.ensures.spelled (search rules) (search rules) (search rules) in
    plain_item e.name.now e.tag e.value.now (elem_value e) c.spells.ensures.tag l (c.spells.ensures.leaf l)
