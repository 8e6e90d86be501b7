use Rattle.std.proofs.Common.{◌∙◌, ◌-◌, arith}
use Rattle.byte_order.proofs.Words.{apart, alike, alike_to_end, fewer}
use Rattle.byte_order.proofs.order_by_eights.Goals as goal

pub returns-then-x-y : goal.returns-then-x-y
returns-then-x-y c =
    c.cmp.ensures
    ∙ apart c.args.a.now c.args.b.now c.type_inv.a c.type_inv.b 8 c.words.at (omega arith) (omega arith) _ _ c.eight_at-x.ensures c.eight_at-y.ensures c.words.invariant.1 c.if-x-y.true

pub words-preserved : goal.words-preserved
words-preserved c =
    (omega arith, alike c.args.a.now c.args.b.now c.type_inv.a c.type_inv.b 8 c.words.at (omega arith) (omega arith) _ _ c.eight_at-x.ensures c.eight_at-y.ensures c.words.invariant.1 c.if-x-y.false)

pub returns-then-x-y-2 : goal.returns-then-x-y-2
returns-then-x-y-2 c =
    let before = fewer (c.args.both - 8) c.words.at c.args.a.now c.args.b.now (omega arith) c.words.invariant.1 in
    c.cmp-then-x-y-2.ensures
    ∙ apart c.args.a.now c.args.b.now c.type_inv.a c.type_inv.b 8 (c.args.both - 8) (omega arith) (omega arith) _ _ c.eight_at-x-2.ensures c.eight_at-y-2.ensures before c.if-x-y-2.true

pub returns : goal.returns
returns c =
    let before = fewer (c.args.both - 8) c.words.at c.args.a.now c.args.b.now (omega arith) c.words.invariant.1 in
    c.cmp-2.ensures
    ∙ alike_to_end c.args.a.now c.args.b.now c.type_inv.a c.type_inv.b 8 (c.args.both - 8) (omega arith) (omega arith) _ _ c.eight_at-x-2.ensures c.eight_at-y-2.ensures before c.if-x-y-2.false (omega arith)
