use Rattle.std.proofs.Common.{List, ◌/◌, ◌%◌, length, ap, ◌∙◌, subst, arith}
use Rattle.std.proofs.lemmas.List.{length-set}
use Rattle.sorted_list.specs.Order.{Shelf}
use Rattle.sorted_list.specs.Chunks.{StandsAt}
use Rattle.sorted_list.proofs.Rooms.{surplus_set, stocked_set}
use Rattle.sorted_list.proofs.Edits.{get_at, roomy_at}
use Rattle.sorted_list.proofs.Near.{chunk_within, near_set}
use Rattle.sorted_list.proofs.list.SortedList.set_near.Goals as goal

pub invariant_of-self : goal.invariant_of-self
invariant_of-self g c =
    let cs = c.self.inside.chunks.items in
    let n = c.args.rank / 127 in
    let i = c.args.rank % 127 in
    let there = c.is_at.ensures c.if-is_at.true in
    let stands = subst (λ (l : List (List g.row.T.Denot)). StandsAt there.0 l n i) c.as_slice.ensures.value there.1.0 in
    let got = get_at cs n c.index_mut.result.now (chunk_within cs n i there.0 stands) c.index_mut.ensures.value in
    let size = roomy_at cs n c.index_mut.result.now got c.self.invariant.roomy in
    let same = ap length c.set_at.ensures ∙ length-set c.index_mut.result.now i c.args.item in
    stocked_set cs c.self.inside.spares.items n c.index_mut.result.now c.set_at.new.self _ _ _ _ _ _ got (omega (arith, size.0, same)) (omega (arith, same))
    (omega (arith, surplus_set cs n c.index_mut.result.now c.set_at.new.self got, c.self.invariant.over, same)) c.self.invariant

pub returns-then-is_at-clause-items : goal.returns-then-is_at-clause-items
returns-then-is_at-clause-items g c = λ ord h o.
    let cs = c.self.inside.chunks.items in
    let n = c.args.rank / 127 in
    let i = c.args.rank % 127 in
    let there = c.is_at.ensures c.if-is_at.true in
    let stands = subst (λ (l : List (List g.row.T.Denot)). StandsAt there.0 l n i) c.as_slice.ensures.value there.1.0 in
    near_set ord cs _ n i c.index_mut.result.now c.set_at.new.self there.0 c.args.item (ap (λ (s : Shelf g.row.T.Denot). s.items) c.self.view_is) stands
    (get_at cs n _ (chunk_within cs n i there.0 stands) c.index_mut.ensures.value) c.set_at.ensures o (there.1.1 ord h)
