use Rattle.std.proofs.Common.{◌<◌, ◌+◌, ◌-◌, List, length, sym, subst, ap, ◌∙◌, arith}
use Rattle.std.specs.Vec.{vec_capacity}
use Rattle.std.proofs.lemmas.List.{nil_from_length}
use Rattle.sorted_list.specs.Order.{Shelf}
use Rattle.sorted_list.specs.Chunks.{joined}
use Rattle.sorted_list.specs.Rooms.{IsStocked}
use Rattle.sorted_list.proofs.Rooms.{surplus_set, surplus_few, stocked_set, stocked_aside}
use Rattle.sorted_list.proofs.Edits.{some_is, get_at, removed_joined, set_at_self, seat_is, find_done, find_gone, take_done, take_gone}
use Rattle.sorted_list.proofs.list.SortedList.remove.Goals as goal

pub returns-then-len-at-clause-value : goal.returns-then-len-at-clause-value
returns-then-len-at-clause-value g c = λ ord h o.
    find_gone ord c.self.inside.chunks.items c.seat-at.result _ (ap (λ (s : Shelf g.row.T.Denot). s.items) c.self.view_is) c.self.invariant.roomy o
    (seat_is ord _ _ _ c.as_slice.ensures.value (c.seat-at.ensures.seat ord h)) (omega (arith, c.if-len-at.true, c.len.ensures))

pub returns-then-len-at-clause-items : goal.returns-then-len-at-clause-items
returns-then-len-at-clause-items g c = λ ord h o.
    take_gone ord c.self.inside.chunks.items c.seat-at.result _ (ap (λ (s : Shelf g.row.T.Denot). s.items) c.self.view_is) c.self.invariant.roomy o
    (seat_is ord _ _ _ c.as_slice.ensures.value (c.seat-at.ensures.seat ord h)) (omega (arith, c.if-len-at.true, c.len.ensures))

pub returns-then-len-eq0-clause-value : goal.returns-then-len-eq0-clause-value
returns-then-len-eq0-clause-value g c = λ ord h o.
    find_done ord c.self.inside.chunks.items c.seat-at.result _ c.index_mut.result.now _ (ap (λ (s : Shelf g.row.T.Denot). s.items) c.self.view_is) c.self.invariant.roomy o
    (seat_is ord _ _ _ c.as_slice.ensures.value (c.seat-at.ensures.seat ord h))
    (get_at c.self.inside.chunks.items c.seat-at.result _ (omega (arith, c.if-len-at.false, c.len.ensures)) c.index_mut.ensures.value) (c.remove-item.ensures.value ord h)

pub returns-else-len-eq0-clause-value : goal.returns-else-len-eq0-clause-value
returns-else-len-eq0-clause-value g c = λ ord h o.
    find_done ord c.self.inside.chunks.items c.seat-at.result _ c.index_mut.result.now _ (ap (λ (s : Shelf g.row.T.Denot). s.items) c.self.view_is) c.self.invariant.roomy o
    (seat_is ord _ _ _ c.as_slice.ensures.value (c.seat-at.ensures.seat ord h))
    (get_at c.self.inside.chunks.items c.seat-at.result _ (omega (arith, c.if-len-at.false, c.len.ensures)) c.index_mut.ensures.value) (c.remove-item.ensures.value ord h)

pub returns-else-len-eq0-clause-items : goal.returns-else-len-eq0-clause-items
returns-else-len-eq0-clause-items g c = λ ord h o.
    take_done ord c.self.inside.chunks.items c.seat-at.result _ c.index_mut.result.now c.remove-item.new.self (ap (λ (s : Shelf g.row.T.Denot). s.items) c.self.view_is) c.self.invariant.roomy o
    (seat_is ord _ _ _ c.as_slice.ensures.value (c.seat-at.ensures.seat ord h))
    (get_at c.self.inside.chunks.items c.seat-at.result _ (omega (arith, c.if-len-at.false, c.len.ensures)) c.index_mut.ensures.value) (c.remove-item.ensures.items ord h)

pub overflow_add-self : goal.overflow_add-self
overflow_add-self g c =
    omega (arith, surplus_few c.self.inside.chunks.items c.self.invariant.roomy, c.self.invariant.over, c.over_half.ensures, c.len-len.ensures.bound, c.len.ensures)

pub overflow_sub-self : goal.overflow_sub-self
overflow_sub-self g c =
    let cs = c.self.inside.chunks.items in
    let n = c.seat-at.result in
    let d = c.index_mut.result.now in
    let d' = c.remove-item.new.self in
    let lt : c.seat-at.result < length c.self.inside.chunks.items = omega (arith, c.if-len-at.false, c.len.ensures) in
    let got = get_at cs n d lt c.index_mut.ensures.value in
    let same = ap length (some_is c.index.result.now d (sym (get_at cs n c.index.result.now lt c.index.ensures) ∙ got)) in
    let self = ap length (c.index-2.ensures ∙ set_at_self cs n d' c.index-2.result.now lt) in
    let set = surplus_set cs n d d' got in
    omega (arith, set, same, self, c.self.invariant.over, c.over_half-over.ensures, c.len-2.ensures.len, c.over_half.ensures, c.len-len.ensures.len)

pub invariant_of-self : goal.invariant_of-self
invariant_of-self g c =
    let cs = c.self.inside.chunks.items in
    let n = c.seat-at.result in
    let d = c.index_mut.result.now in
    let d' = c.remove-item.new.self in
    let lt : c.seat-at.result < length c.self.inside.chunks.items = omega (arith, c.if-len-at.false, c.len.ensures) in
    let got = get_at cs n d lt c.index_mut.ensures.value in
    let same = ap length (some_is c.index.result.now d (sym (get_at cs n c.index.result.now lt c.index.ensures) ∙ got)) in
    let self = ap length (c.index-2.ensures ∙ set_at_self cs n d' c.index-2.result.now lt) in
    let set = surplus_set cs n d d' got in
    let e = c.set_aside.ensures in
    let ss' = c.set_aside.new.spares.items in
    subst (λ (l : List (List g.row.T.Denot)). IsStocked l ss' (vec_capacity c.set_aside.new.chunks) (vec_capacity c.set_aside.new.spares) (c.self.inside.over + c.over_half.result - c.over_half-over.result) c.self.inside.room c.self.inside.end_room) (sym e.items)
    (stocked_aside cs c.self.inside.spares.items ss' n d d' _ _ _ _ _ _ _ _ got (omega (arith, self, c.len-len.ensures.len, c.if-len-eq0.true)) e.empty e.more e.capacity e.spare_capacity
    (omega (arith, set, same, self, c.self.invariant.over, c.over_half-over.ensures, c.len-2.ensures.len, c.over_half.ensures, c.len-len.ensures.len, c.if-len-eq0.true)) c.self.invariant)

pub invariant_of-self-else-len-eq0 : goal.invariant_of-self-else-len-eq0
invariant_of-self-else-len-eq0 g c =
    let cs = c.self.inside.chunks.items in
    let n = c.seat-at.result in
    let d = c.index_mut.result.now in
    let d' = c.remove-item.new.self in
    let lt : c.seat-at.result < length c.self.inside.chunks.items = omega (arith, c.if-len-at.false, c.len.ensures) in
    let got = get_at cs n d lt c.index_mut.ensures.value in
    let same = ap length (some_is c.index.result.now d (sym (get_at cs n c.index.result.now lt c.index.ensures) ∙ got)) in
    let self = ap length (c.index-2.ensures ∙ set_at_self cs n d' c.index-2.result.now lt) in
    let set = surplus_set cs n d d' got in
    stocked_set cs c.self.inside.spares.items n d d' _ _ _ _ _ _ got (omega (arith, self, c.if-len-eq0.false, c.len-len.ensures.len)) (omega (arith, c.remove-item.ensures.len))
    (omega (arith, set, same, self, c.self.invariant.over, c.over_half-over.ensures, c.len-2.ensures.len, c.over_half.ensures, c.len-len.ensures.len)) c.self.invariant

pub returns-then-len-eq0-clause-items : goal.returns-then-len-eq0-clause-items
returns-then-len-eq0-clause-items g c = λ ord h o.
    let cs = c.self.inside.chunks.items in
    let n = c.seat-at.result in
    let lt : c.seat-at.result < length c.self.inside.chunks.items = omega (arith, c.if-len-at.false, c.len.ensures) in
    let self = ap length (c.index-2.ensures ∙ set_at_self cs n c.remove-item.new.self c.index-2.result.now lt) in
    ap joined c.set_aside.ensures.items
    ∙ (removed_joined cs n c.remove-item.new.self lt (nil_from_length c.remove-item.new.self (omega (arith, self, c.if-len-eq0.true, c.len-len.ensures.len)))
    ∙ take_done ord cs n _ c.index_mut.result.now c.remove-item.new.self (ap (λ (s : Shelf g.row.T.Denot). s.items) c.self.view_is) c.self.invariant.roomy o
    (seat_is ord _ _ _ c.as_slice.ensures.value (c.seat-at.ensures.seat ord h))
    (get_at cs n _ lt c.index_mut.ensures.value) (c.remove-item.ensures.items ord h))
