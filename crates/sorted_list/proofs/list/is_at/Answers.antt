use Rattle.std.proofs.Common.{sym, ◌∙◌}
use Rattle.sorted_list.proofs.Ends.{answer_is}
use Rattle.sorted_list.proofs.list.is_at.Goals as goal

pub returns-in-Equal : goal.returns-in-Equal
returns-in-Equal g c = λ t.
    let w = (g.met.F.FnMut.1.post_iff _ _ _).0 c.order.ensures in
    (c.in-Some.item.now, (c.in-Some.ensures, λ ord h. sym (answer_is g.F.Fn _ _ _ _ _ w.1 h) ∙ c.in-Equal.is))
