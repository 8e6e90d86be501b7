use Rattle.std.proofs.Common.{rules, List, ℕ, ◌<◌, Some, None, length, ap, sym, ◌∙◌, arith}
use Rattle.std.specs.Prelude.{option_map, slice_index_or}
use Rattle.std.proofs.lemmas.Fn.{always_returns_same}
use Rattle.std.specs.List.{insert}
use Rattle.sorted_list.specs.Order.{Shelf}
use Rattle.sorted_list.proofs.Order.{put_at, new_there, new_gone}
use Rattle.sorted_list.proofs.Rooms.{surplus_wanted, stocked_put}
use Rattle.sorted_list.proofs.Ends.{answer_is}
use Rattle.sorted_list.proofs.Edits.{some_is, get_at, near_at, near_done, put_done}
use Rattle.sorted_list.proofs.list.SortedList.put_new.Goals as goal

pub returns-in-Ok-clause-there : goal.returns-in-Ok-clause-there
returns-in-Ok-clause-there g c = λ cmp key h k o.
    let cs = c.self.inside.chunks.items in
    let n = c.chosen-at.result in
    let d = c.index.result.now in
    let x = c.index-as_slice-place.result in
    let ord = λ (x : g.row.T.Denot). cmp x c.args.item in
    let within : n < length cs = omega (arith, c.chosen-at.ensures.within, ap length c.as_slice.ensures.value) in
    let got = get_at cs n d within c.index.ensures in
    let same = some_is c.index-in-Ok.result.now d (sym (get_at cs n c.index-in-Ok.result.now within c.index-in-Ok.ensures) ∙ got) in
    let is = ap (λ (s : Shelf g.row.T.Denot). s.items) c.self.view_is in
    let near = near_at ord _ cs n _ c.as_slice.ensures.value is c.self.invariant.roomy o (c.chosen-at.ensures.near ord (always_returns_same _ _ _ (λ a r f' k. (k.met.0 cmp h, search rules)))) in
    let w = (g.met.G.FnMut.1.post_iff _ _ _).0 c.look.ensures in
    ap Some (answer_is g.G.Fn _ _ _ _ _ w.1 k)
    ∙ ap (option_map key) (near_done ord cs n _ d (Some x) is c.self.invariant.roomy o near got
    (λ p. ap Some (c.index-as_slice-place.is ∙ ap (λ (l : List g.row.T.Denot). slice_index_or l c.in-Ok.place x) (c.as_slice-in-Ok.ensures ∙ same))
    ∙ sym ((c.in-Ok.ensures.place ord (always_returns_same _ _ _ (λ a r f' k. (k.met.0 cmp h, search rules))) p).is_found x)))

pub returns-in-Ok-clause-items : goal.returns-in-Ok-clause-items
returns-in-Ok-clause-items g c = λ cmp h o.
    let cs = c.self.inside.chunks.items in
    let n = c.chosen-at.result in
    let d = c.index.result.now in
    let x = c.args.item in
    let ord = λ (x : g.row.T.Denot). cmp x c.args.item in
    let within : n < length cs = omega (arith, c.chosen-at.ensures.within, ap length c.as_slice.ensures.value) in
    let got = get_at cs n d within c.index.ensures in
    let is = ap (λ (s : Shelf g.row.T.Denot). s.items) c.self.view_is in
    let near = near_at ord _ cs n _ c.as_slice.ensures.value is c.self.invariant.roomy o (c.chosen-at.ensures.near ord (always_returns_same _ _ _ (λ a r f' k. (k.met.0 cmp h, search rules)))) in
    new_there ord c.args.self.now.items (slice_index_or d c.in-Ok.place x) x
    (near_done ord cs n _ d (Some (slice_index_or d c.in-Ok.place x)) is c.self.invariant.roomy o near got
    (λ p. sym ((c.in-Ok.ensures.place ord (always_returns_same _ _ _ (λ a r f' k. (k.met.0 cmp h, search rules))) p).is_found x)))

pub returns-in-Err-clause-there : goal.returns-in-Err-clause-there
returns-in-Err-clause-there g c = λ cmp key h k o.
    let cs = c.self.inside.chunks.items in
    let n = c.chosen-at.result in
    let d = c.index.result.now in
    let ord = λ (x : g.row.T.Denot). cmp x c.args.item in
    let within : n < length cs = omega (arith, c.chosen-at.ensures.within, ap length c.as_slice.ensures.value) in
    let got = get_at cs n d within c.index.ensures in
    let is = ap (λ (s : Shelf g.row.T.Denot). s.items) c.self.view_is in
    let near = near_at ord _ cs n _ c.as_slice.ensures.value is c.self.invariant.roomy o (c.chosen-at.ensures.near ord (always_returns_same _ _ _ (λ a r f' k. (k.met.0 cmp h, search rules)))) in
    ap (option_map key) (near_done ord cs n _ d None is c.self.invariant.roomy o near got
    (λ p. sym (c.in-Err.ensures.place ord (always_returns_same _ _ _ (λ a r f' k. (k.met.0 cmp h, search rules))) p).is_absent))

pub returns-in-Err-clause-items : goal.returns-in-Err-clause-items
returns-in-Err-clause-items g c = λ cmp h o.
    let cs = c.self.inside.chunks.items in
    let n = c.chosen-at.result in
    let d = c.index.result.now in
    let ord = λ (x : g.row.T.Denot). cmp x c.args.item in
    let within : n < length cs = omega (arith, c.chosen-at.ensures.within, ap length c.as_slice.ensures.value) in
    let got = get_at cs n d within c.index.ensures in
    let is = ap (λ (s : Shelf g.row.T.Denot). s.items) c.self.view_is in
    let near = near_at ord _ cs n _ c.as_slice.ensures.value is c.self.invariant.roomy o (c.chosen-at.ensures.near ord (always_returns_same _ _ _ (λ a r f' k. (k.met.0 cmp h, search rules)))) in
    c.put_at.ensures.items d got
    ∙ (put_done ord cs n _ d (insert d c.in-Err.place c.args.item) c.args.item is c.self.invariant.roomy o near got
    (λ p. ap (λ (m : ℕ). insert d m c.args.item) (sym (c.in-Err.ensures.place ord (always_returns_same _ _ _ (λ a r f' k. (k.met.0 cmp h, search rules))) p).is_place) ∙ put_at ord d c.args.item)
    ∙ new_gone ord c.args.self.now.items c.args.item (near_done ord cs n _ d None is c.self.invariant.roomy o near got
    (λ p. sym (c.in-Err.ensures.place ord (always_returns_same _ _ _ (λ a r f' k. (k.met.0 cmp h, search rules))) p).is_absent)))

pub invariant_of-self-in-Err-1 : goal.invariant_of-self-in-Err-1
invariant_of-self-in-Err-1 g c =
    let cs = c.self.inside.chunks.items in
    let e = c.put_at.ensures in
    stocked_put cs c.self.inside.spares.items c.put_at.new.chunks.items c.put_at.new.spares.items _ _ _ _ _ _ _ _ e.roomy e.empty e.room (omega (arith, e.spare_room, e.spare_capacity, c.self.invariant.spares_fit)) e.surplus e.some e.less
    (omega (arith, e.kept, surplus_wanted cs, c.self.invariant.over)) c.self.invariant
