use Rattle.sorted_list.proofs.Ends.{answer_is}
use Rattle.sorted_list.proofs.list.fn.SortedList.put_new.beside.Goals as goal

pub returns : goal.returns
returns g c = λ cmp h.
    let w = (g.met.F.FnMut.1.post_iff _ _ _).0 c.order.ensures in
    answer_is g.F.Fn _ _ _ _ _ w.1 h
