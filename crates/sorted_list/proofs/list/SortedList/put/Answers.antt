use Rattle.std.proofs.Common.{rules, ℕ, ◌<◌, length, ap, ◌∙◌, arith}
use Rattle.std.proofs.lemmas.Fn.{always_returns_same}
use Rattle.std.specs.List.{insert}
use Rattle.sorted_list.specs.Order.{Shelf}
use Rattle.sorted_list.proofs.Order.{put_at}
use Rattle.sorted_list.proofs.Rooms.{surplus_wanted, stocked_put}
use Rattle.sorted_list.proofs.Edits.{get_at, near_at, put_done}
use Rattle.sorted_list.proofs.list.SortedList.put.Goals as goal

pub returns-clause-items : goal.returns-clause-items
returns-clause-items g c = λ cmp h o.
    let cs = c.self.inside.chunks.items in
    let n = c.chosen-at.result in
    let d = c.index.result.now in
    let ord = λ (x : g.row.T.Denot). cmp x c.args.item in
    let within : n < length cs = omega (arith, c.chosen-at.ensures.within, ap length c.as_slice.ensures.value) in
    let got = get_at cs n d within c.index.ensures in
    let is = ap (λ (s : Shelf g.row.T.Denot). s.items) c.self.view_is in
    let near = near_at ord _ cs n _ c.as_slice.ensures.value is c.self.invariant.roomy o (c.chosen-at.ensures.near ord (always_returns_same _ _ _ (λ a r f' k. (k.met.0 cmp h, search rules)))) in
    c.put_at.ensures.items d got
    ∙ put_done ord cs n _ d (insert d c.place-place.result c.args.item) c.args.item is c.self.invariant.roomy o near got
    (λ p. ap (λ (m : ℕ). insert d m c.args.item) (c.place-place.ensures.place ord (always_returns_same _ _ _ (λ a r f' k. (k.met.0 cmp h, search rules))) p) ∙ put_at ord d c.args.item)

pub invariant_of-self-2 : goal.invariant_of-self-2
invariant_of-self-2 g c =
    let cs = c.self.inside.chunks.items in
    let e = c.put_at.ensures in
    stocked_put cs c.self.inside.spares.items c.put_at.new.chunks.items c.put_at.new.spares.items _ _ _ _ _ _ _ _ e.roomy e.empty e.room (omega (arith, e.spare_room, e.spare_capacity, c.self.invariant.spares_fit)) e.surplus e.some e.less
    (omega (arith, e.kept, surplus_wanted cs, c.self.invariant.over)) c.self.invariant
