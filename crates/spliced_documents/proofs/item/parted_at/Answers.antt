use Rattle.std.proofs.Common.{◌+◌, length, ◌∙◌}
use Rattle.bson_view.specs.Views.{elem_part, parts_left}
use Rattle.bson_view.proofs.Stepping.{to_the_end}
use Rattle.spliced_documents.proofs.Counting.{behind_found, found, goes_on, passed_is}
use Rattle.spliced_documents.proofs.item.parted_at.Goals as goal

pub returns-then-ahead-eq0-clause-parted : goal.returns-then-ahead-eq0-clause-parted
returns-then-ahead-eq0-clause-parted c =
    let b = c.args.bytes.now in
    let all = parts_left c.args.elements in
    let start = c.loop-elem.start in
    let ahead = c.loop-elem.ahead in
    let left = parts_left c.loop-elem.elem-iterator in
    let s = c.loop-elem.invariant in
    let p = elem_part c.in-Some.elem in
    let ps = parts_left c.next.new.self in
    let end = start + length c.in-Some.elem.name.now + length c.in-Some.elem.value.now + 2 in
    found c.args.index b all left start ahead s p ps c.in-Some.ensures.steps c.if-ahead-eq0.true _ _ (passed_is c.args.index b all left start ahead s) (to_the_end end b ∙ behind_found c.args.index b all left start ahead s p ps c.in-Some.ensures.steps)

pub loop-elem-preserved : goal.loop-elem-preserved
loop-elem-preserved c =
    goes_on c.args.index c.args.bytes.now (parts_left c.args.elements) (parts_left c.loop-elem.elem-iterator) c.loop-elem.start c.loop-elem.ahead c.loop-elem.invariant (elem_part c.in-Some.elem) (parts_left c.next.new.self) c.in-Some.ensures.steps c.if-ahead-eq0.false
