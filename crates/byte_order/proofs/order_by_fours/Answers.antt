use Rattle.std.proofs.Common.{◌∙◌, ◌-◌, refl, arith}
use Rattle.byte_order.proofs.Words.{apart, alike, alike_to_end, fewer}
use Rattle.byte_order.proofs.order_by_fours.Goals as goal

pub returns-then-x-y : goal.returns-then-x-y
returns-then-x-y c =
    c.cmp.ensures
    ∙ apart c.args.a.now c.args.b.now c.type_inv.a c.type_inv.b 4 0 (omega arith) (omega arith) _ _ c.four_at-x.ensures c.four_at-y.ensures refl c.if-x-y.true

pub returns-then-x-y-2 : goal.returns-then-x-y-2
returns-then-x-y-2 c =
    let first = alike c.args.a.now c.args.b.now c.type_inv.a c.type_inv.b 4 0 (omega arith) (omega arith) _ _ c.four_at-x.ensures c.four_at-y.ensures refl c.if-x-y.false in
    let before = fewer (c.args.both - 4) 4 c.args.a.now c.args.b.now (omega arith) first in
    c.cmp-then-x-y-2.ensures
    ∙ apart c.args.a.now c.args.b.now c.type_inv.a c.type_inv.b 4 (c.args.both - 4) (omega arith) (omega arith) _ _ c.four_at-x-2.ensures c.four_at-y-2.ensures before c.if-x-y-2.true

pub returns : goal.returns
returns c =
    let first = alike c.args.a.now c.args.b.now c.type_inv.a c.type_inv.b 4 0 (omega arith) (omega arith) _ _ c.four_at-x.ensures c.four_at-y.ensures refl c.if-x-y.false in
    let before = fewer (c.args.both - 4) 4 c.args.a.now c.args.b.now (omega arith) first in
    c.cmp-2.ensures
    ∙ alike_to_end c.args.a.now c.args.b.now c.type_inv.a c.type_inv.b 4 (c.args.both - 4) (omega arith) (omega arith) _ _ c.four_at-x-2.ensures c.four_at-y-2.ensures before c.if-x-y-2.false (omega arith)
