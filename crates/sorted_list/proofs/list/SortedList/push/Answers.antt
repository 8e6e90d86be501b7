use Rattle.std.proofs.Common.{◌≡◌, ◌++◌, ◌∷◌, ◌-◌, ◌+◌, ◌<◌, [], length, sym, ap, ◌∙◌, subst, arith, length-append}
use Rattle.std.proofs.lemmas.List.{length-set}
use Rattle.std.specs.Prelude.{slice_set}
use Rattle.sorted_list.specs.Order.{Shelf}
use Rattle.sorted_list.specs.Chunks.{AreRoomy, joined}
use Rattle.sorted_list.specs.Rooms.{last_len, surplus}
use Rattle.sorted_list.proofs.Edits.{some_is, get_at, set_at_self, roomy_set, roomy_push, joined_push, pushed_joined}
use Rattle.sorted_list.proofs.Rooms.{surplus_set, surplus_push, surplus_few, last_few, last_some, last_at, last_push, stocked_push}
use Rattle.sorted_list.proofs.list.SortedList.push.Goals as goal

pub invariant_of-self : goal.invariant_of-self
invariant_of-self g c =
    let cs = c.self.inside.chunks.items in
    let one = c.args.item ∷ [] in
    let e = c.begin.ensures in
    let full = c.last_len.ensures ∙ ap last_len c.as_slice.ensures.value in
    let len = ap length e.items ∙ length-append cs (one ∷ []) in
    stocked_push cs c.self.inside.spares.items c.begin.new.chunks.items c.begin.new.spares.items _ _ _ _ _ _ _ _
    (subst AreRoomy (sym e.items) (roomy_push cs one c.self.invariant.roomy (omega arith) (omega arith))) e.empty
    (omega (arith, len, e.less, e.capacity, c.self.invariant.fits))
    (omega (arith, len, e.less, e.spare_capacity, c.self.invariant.spares_fit))
    (omega (arith, c.self.invariant.over, ap surplus e.items, surplus_push cs one))
    (omega (arith, c.requires, ap (λ (s : Shelf g.row.T.Denot). s.end_room) c.self.view_is))
    (omega (arith, ap last_len e.items ∙ last_push cs one, full, c.if-last_len-eq-PUSHED_LEN.true, e.less)) c.self.invariant

pub returns-then-last_len-eq-PUSHED_LEN-clause-items : goal.returns-then-last_len-eq-PUSHED_LEN-clause-items
returns-then-last_len-eq-PUSHED_LEN-clause-items g c =
    let cs = c.self.inside.chunks.items in
    ap joined c.begin.ensures.items
    ∙ (joined_push cs (c.args.item ∷ []) ∙ ap (λ (s : Shelf g.row.T.Denot). s.items ++ c.args.item ∷ []) c.self.view_is)

pub overflow_add-self : goal.overflow_add-self
overflow_add-self g c =
    let cs = c.self.inside.chunks.items in
    omega (arith, surplus_few cs c.self.invariant.roomy, c.self.invariant.over, c.over_half.ensures, c.len-len.ensures.bound, c.len-at.ensures)

pub push-requires : goal.push-requires
push-requires g c =
    let cs = c.self.inside.chunks.items in
    let n = c.len-at.result - 1 in
    let d = c.index_mut.result.now in
    let full = c.last_len.ensures ∙ ap last_len c.as_slice.ensures.value in
    let less : last_len cs < 127 = omega (arith, full, c.if-last_len-eq-PUSHED_LEN.false, (last_few cs c.self.invariant.roomy).1) in
    let got = get_at cs n d (omega (arith, last_some cs less, c.len-at.ensures)) c.index_mut.ensures.value in
    omega (arith, less, last_at cs n d (omega (arith, c.len-at.ensures)) got)

pub invariant_of-self-2 : goal.invariant_of-self-2
invariant_of-self-2 g c =
    let cs = c.self.inside.chunks.items in
    let ss = c.self.inside.spares.items in
    let n = c.len-at.result - 1 in
    let d = c.index_mut.result.now in
    let d' = c.push.new.self in
    let s = c.self.invariant in
    let full = c.last_len.ensures ∙ ap last_len c.as_slice.ensures.value in
    let less : last_len cs < 127 = omega (arith, full, c.if-last_len-eq-PUSHED_LEN.false, (last_few cs s.roomy).1) in
    let lt : n < length cs = omega (arith, last_some cs less, c.len-at.ensures) in
    let got = get_at cs n d lt c.index_mut.ensures.value in
    let same = ap length (some_is c.index.result.now d (sym (get_at cs n c.index.result.now lt c.index.ensures) ∙ got)) in
    let more : length d' ≡ length d + 1 = ap length c.push.ensures ∙ length-append d (c.args.item ∷ []) in
    let last = last_at cs n d (omega (arith, c.len-at.ensures)) got in
    let set = length-set cs n d' in
    let last' = last_at (slice_set cs n d') n d' (omega (arith, c.len-at.ensures, set)) (get_at (slice_set cs n d') n d' (omega (arith, lt, set)) (sym (set_at_self cs n d' d' lt))) in
    stocked_push cs ss (slice_set cs n d') ss _ _ _ _ _ _ _ _
    (roomy_set cs n d' s.roomy (omega (arith, more)) (omega (arith, more, less, last))) s.empty
    (omega (arith, set, s.fits))
    (omega (arith, set, s.spares_fit))
    (omega (arith, s.over, surplus_set cs n d d' got, c.over_half.ensures, c.over_half-2.ensures, c.len-len.ensures.len, same, more))
    (omega (arith, c.requires, ap (λ (s : Shelf g.row.T.Denot). s.end_room) c.self.view_is))
    (omega (arith, last, last', more)) s

pub returns-clause-items : goal.returns-clause-items
returns-clause-items g c =
    let cs = c.self.inside.chunks.items in
    let n = c.len-at.result - 1 in
    let full = c.last_len.ensures ∙ ap last_len c.as_slice.ensures.value in
    let less : last_len cs < 127 = omega (arith, full, c.if-last_len-eq-PUSHED_LEN.false, (last_few cs c.self.invariant.roomy).1) in
    let got = get_at cs n c.index_mut.result.now (omega (arith, last_some cs less, c.len-at.ensures)) c.index_mut.ensures.value in
    pushed_joined cs n c.index_mut.result.now c.push.new.self c.args.item (omega (arith, c.len-at.ensures)) got c.push.ensures
    ∙ ap (λ (s : Shelf g.row.T.Denot). s.items ++ c.args.item ∷ []) c.self.view_is
