use Rattle.std.proofs.Common.{List, sym, ◌∙◌, subst}
use Rattle.std.specs.Prelude.{MatchResult}
use Rattle.sorted_list.specs.Order.{IsOrdered, IsFound, IsGap}
use Rattle.sorted_list.proofs.Order.{searched}
use Rattle.sorted_list.proofs.Ends.{gap_end}
use Rattle.sorted_list.proofs.chunk.Chunk.search.Goals as goal

pub returns-clause-place : goal.returns-clause-place
returns-clause-place g c = λ ord h o.
    let e = c.as_slice.ensures.value ∙ c.self.view_is in
    let r = c.binary_search_by.result in
    subst (λ (l : List g.row.T.Denot). MatchResult r (IsFound ord l) (IsGap ord l)) e
    (searched ord c.as_slice.result.now r (subst (IsOrdered ord) (sym e) o) c.binary_search_by.ensures.bound (c.binary_search_by.ensures.position ord h))

pub returns-then-ends_below-clause-place : goal.returns-then-ends_below-clause-place
returns-then-ends_below-clause-place g c = λ ord h o.
    subst (IsGap ord c.args.self.now) (sym c.len.ensures.len) (gap_end ord c.args.self.now o (c.ends_below.ensures ord h c.if-ends_below.true))
