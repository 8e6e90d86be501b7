use Rattle.std.proofs.Common.{ap, arith}
use Rattle.sorted_list.specs.Order.{Shelf}
use Rattle.sorted_list.proofs.Rooms.{surplus_set, stocked_set}
use Rattle.sorted_list.proofs.Edits.{get_at, roomy_at, seat_is, set_done, set_gone}
use Rattle.sorted_list.proofs.list.SortedList.set.Goals as goal

pub invariant_of-self : goal.invariant_of-self
invariant_of-self g c =
    let cs = c.self.inside.chunks.items in
    let n = c.seat-at.result in
    let got = get_at cs n c.index_mut.result.now (omega (arith, c.if-at-len.true, c.len.ensures)) c.index_mut.ensures.value in
    let size = roomy_at cs n c.index_mut.result.now got c.self.invariant.roomy in
    stocked_set cs c.self.inside.spares.items n c.index_mut.result.now c.set.new.self _ _ _ _ _ _ got (omega (arith, size.0, c.set.ensures.len)) (omega (arith, c.set.ensures.len))
    (omega (arith, surplus_set cs n c.index_mut.result.now c.set.new.self got, c.self.invariant.over, c.set.ensures.len)) c.self.invariant

pub returns-then-at-len-clause-items : goal.returns-then-at-len-clause-items
returns-then-at-len-clause-items g c = λ ord h o.
    set_done ord c.self.inside.chunks.items c.seat-at.result _ c.index_mut.result.now c.set.new.self c.args.item (ap (λ (s : Shelf g.row.T.Denot). s.items) c.self.view_is) c.self.invariant.roomy o
    (seat_is ord _ _ _ c.as_slice.ensures.value (c.seat-at.ensures.seat ord h))
    (get_at c.self.inside.chunks.items c.seat-at.result _ (omega (arith, c.if-at-len.true, c.len.ensures)) c.index_mut.ensures.value) (c.set.ensures.items ord h)

pub returns-else-at-len-clause-items : goal.returns-else-at-len-clause-items
returns-else-at-len-clause-items g c = λ ord h o.
    set_gone ord c.self.inside.chunks.items c.seat-at.result _ c.args.item (ap (λ (s : Shelf g.row.T.Denot). s.items) c.self.view_is) c.self.invariant.roomy o
    (seat_is ord _ _ _ c.as_slice.ensures.value (c.seat-at.ensures.seat ord h)) (omega (arith, c.if-at-len.false, c.len.ensures))
