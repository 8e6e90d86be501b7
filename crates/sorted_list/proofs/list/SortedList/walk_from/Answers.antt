use Rattle.std.proofs.Common.{◌≡◌, ◌<◌, ◌+◌, ◌++◌, suc, length, drop, sym, ap, ◌∙◌, subst, arith}
use Rattle.sorted_list.specs.Order.{Shelf}
use Rattle.sorted_list.specs.Chunks.{AreRoomy, joined}
use Rattle.sorted_list.proofs.Order.{rest_from, drop_place}
use Rattle.sorted_list.proofs.Edits.{some_is, get_at, roomy_drop, seat_is, from_done, from_gone}
use Rattle.sorted_list.proofs.list.SortedList.walk_from.Goals as goal

pub of-requires : goal.of-requires
of-requires g c =
    subst AreRoomy (sym (rest_from c.as_slice-then-at-len-2.result.now (c.seat-at.result + 1)))
    (roomy_drop c.as_slice-then-at-len-2.result.now (c.seat-at.result + 1) (subst AreRoomy (sym c.as_slice-then-at-len-2.ensures.value) c.self.invariant.roomy))

pub returns-then-at-len : goal.returns-then-at-len
returns-then-at-len g c = λ ord h o.
    let cs = c.self.inside.chunks.items in
    let n = c.seat-at.result in
    let d = c.index.result.now in
    let within : n < length cs = omega (arith, c.if-at-len.true, c.len.ensures) in
    let got = get_at cs n d within c.index.ensures in
    let same = some_is c.index-then-at-len.result.now d (sym (get_at cs n c.index-then-at-len.result.now within c.index-then-at-len.ensures) ∙ got) in
    let next : n + 1 ≡ suc n = omega arith in
    let rest = rest_from c.as_slice-then-at-len-2.result.now (n + 1) ∙ (λ i. drop (next i) (c.as_slice-then-at-len-2.ensures.value i)) in
    c.of.ensures ∙ ((λ i. rest_from c.as_slice-then-at-len.result.now c.place-place.result i ++ joined (rest i))
    ∙ from_done ord cs n _ d (drop c.place-place.result c.as_slice-then-at-len.result.now) (ap (λ (s : Shelf g.row.T.Denot). s.items) c.self.view_is) c.self.invariant.roomy o
    (seat_is ord _ _ _ c.as_slice.ensures.value (c.seat-at.ensures.seat ord h))
    got (λ p. (λ i. drop (c.place-place.ensures.place ord h p i) ((c.as_slice-then-at-len.ensures ∙ same) i)) ∙ drop_place ord d))

pub returns : goal.returns
returns g c = λ ord h o.
    c.of-else-at-len.ensures ∙ from_gone ord c.self.inside.chunks.items c.seat-at.result _ (ap (λ (s : Shelf g.row.T.Denot). s.items) c.self.view_is) c.self.invariant.roomy o
    (seat_is ord _ _ _ c.as_slice.ensures.value (c.seat-at.ensures.seat ord h)) (omega (arith, c.if-at-len.false, c.len.ensures))
