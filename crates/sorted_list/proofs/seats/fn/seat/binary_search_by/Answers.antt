use Rattle.std.proofs.Common.{ap, sym, ◌∙◌}
use Rattle.std.specs.Option.{option_copied}
use Rattle.sorted_list.proofs.Ends.{answer_is, less_side, greater_side}
use Rattle.sorted_list.proofs.seats.fn.seat.binary_search_by.Goals as goal

pub returns-in-Less : goal.returns-in-Less
returns-in-Less g c = λ ord h.
    let w = (g.met.F.FnMut.1.post_iff _ _ _).0 c.order.ensures in
    less_side ord _ c.in-Some.item.now (sym c.last.ensures ∙ ap option_copied c.in-Some.is) (sym (answer_is g.F.Fn _ _ _ _ _ w.1 h) ∙ c.in-Less.is)

pub returns-in_default : goal.returns-in_default
returns-in_default g c = λ ord h.
    let w = (g.met.F.FnMut.1.post_iff _ _ _).0 c.order.ensures in
    greater_side ord _ c.in-Some.item.now (sym c.last.ensures ∙ ap option_copied c.in-Some.is) (λ l. c.in_default.not-Less (answer_is g.F.Fn _ _ _ _ _ w.1 h ∙ l))
