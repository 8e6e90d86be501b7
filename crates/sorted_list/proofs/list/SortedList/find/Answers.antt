use Rattle.std.proofs.Common.{ap, arith}
use Rattle.sorted_list.specs.Order.{Shelf}
use Rattle.sorted_list.proofs.Edits.{get_at, seat_is, find_done, find_gone}
use Rattle.sorted_list.proofs.list.SortedList.find.Goals as goal

pub returns-then-at-len : goal.returns-then-at-len
returns-then-at-len g c = λ ord h o.
    find_done ord c.self.inside.chunks.items c.seat-at.result _ c.index.result.now _ (ap (λ (s : Shelf g.row.T.Denot). s.items) c.self.view_is) c.self.invariant.roomy o
    (seat_is ord _ _ _ c.as_slice.ensures.value (c.seat-at.ensures.seat ord h))
    (get_at c.self.inside.chunks.items c.seat-at.result _ (omega (arith, c.if-at-len.true, c.len.ensures)) c.index.ensures) (c.find.ensures ord h)

pub returns : goal.returns
returns g c = λ ord h o.
    find_gone ord c.self.inside.chunks.items c.seat-at.result _ (ap (λ (s : Shelf g.row.T.Denot). s.items) c.self.view_is) c.self.invariant.roomy o
    (seat_is ord _ _ _ c.as_slice.ensures.value (c.seat-at.ensures.seat ord h)) (omega (arith, c.if-at-len.false, c.len.ensures))
