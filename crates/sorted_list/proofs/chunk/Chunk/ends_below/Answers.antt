use Rattle.std.proofs.Common.{ap, sym, ◌∙◌}
use Rattle.std.specs.Option.{option_copied}
use Rattle.sorted_list.proofs.Ends.{answer_is, below_end}
use Rattle.sorted_list.proofs.chunk.Chunk.ends_below.Goals as goal

pub returns-in-Less : goal.returns-in-Less
returns-in-Less g c = λ ord h t.
    let w = (g.met.F.FnMut.1.post_iff _ _ _).0 c.order.ensures in
    below_end ord _ c.in-Some.item.now (sym c.last.ensures ∙ ap option_copied c.in-Some.is) (sym (answer_is g.F.Fn _ _ _ _ _ w.1 h) ∙ c.in-Less.is)
