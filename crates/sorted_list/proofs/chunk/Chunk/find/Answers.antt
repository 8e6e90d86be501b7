use Rattle.std.proofs.Common.{◌∙◌}
use Rattle.sorted_list.proofs.Order.{find_ok, find_err}
use Rattle.sorted_list.proofs.chunk.Chunk.find.Goals as goal

pub returns-in-Ok : goal.returns-in-Ok
returns-in-Ok g c = λ ord h o.
    find_ok ord _ _ c.in-Ok.at _ (c.as_slice.ensures.value ∙ c.self.view_is) o (c.in-Ok.ensures.bound, c.in-Ok.ensures.position ord h) (rw c.as_slice.ensures.value c.index.ensures)

pub returns-in-Err : goal.returns-in-Err
returns-in-Err g c = λ ord h o.
    find_err ord _ _ c.in-Err.field-0 (c.as_slice.ensures.value ∙ c.self.view_is) o (c.in-Err.ensures.bound, c.in-Err.ensures.position ord h)
