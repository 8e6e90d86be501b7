use Rattle.std.proofs.Common.{◌/◌, ◌%◌, ap, sym, ◌∙◌}
use Rattle.sorted_list.specs.Order.{Shelf}
use Rattle.sorted_list.specs.Chunks.{joined}
use Rattle.sorted_list.proofs.Ends.{answer_is}
use Rattle.sorted_list.proofs.Near.{near_found}
use Rattle.sorted_list.proofs.list.SortedList.find_near.Goals as goal

pub returns-in-Equal : goal.returns-in-Equal
returns-in-Equal g c = λ ord h o.
    let w = (g.met.F.FnMut.1.post_iff _ _ _).0 c.order.ensures in
    near_found ord c.as_slice-chunks.result.now _ (c.args.rank / 127) (c.args.rank % 127) c.in-Some.item.now (ap joined c.as_slice-chunks.ensures.value ∙ ap (λ (s : Shelf g.row.T.Denot). s.items) c.self.view_is)
    c.in-Some.ensures o (sym (answer_is g.F.Fn _ _ _ _ _ w.1 h) ∙ c.in-Equal.is)
