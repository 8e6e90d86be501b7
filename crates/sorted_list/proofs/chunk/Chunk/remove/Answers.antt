use Rattle.std.proofs.Common.{◌∙◌}
use Rattle.sorted_list.proofs.Order.{find_ok, find_err, take_ok, take_err}
use Rattle.sorted_list.proofs.chunk.Chunk.remove.Goals as goal

pub returns-in-Ok-clause-value : goal.returns-in-Ok-clause-value
returns-in-Ok-clause-value g c = λ ord h o.
    find_ok ord _ _ c.in-Ok.at _ c.self.view_is o (rw (← c.as_slice.ensures.value) (c.in-Ok.ensures.bound, c.in-Ok.ensures.position ord h)) c.remove.ensures.value

pub returns-in-Ok-clause-items : goal.returns-in-Ok-clause-items
returns-in-Ok-clause-items g c = λ ord h o.
    c.remove.ensures.items ∙ take_ok ord _ _ c.in-Ok.at c.remove.result c.self.view_is o (rw (← c.as_slice.ensures.value) (c.in-Ok.ensures.bound, c.in-Ok.ensures.position ord h))

pub returns-in-Err-clause-value : goal.returns-in-Err-clause-value
returns-in-Err-clause-value g c = λ ord h o.
    find_err ord _ _ c.in-Err.field-0 c.self.view_is o (rw (← c.as_slice.ensures.value) (c.in-Err.ensures.bound, c.in-Err.ensures.position ord h))

pub returns-in-Err-clause-items : goal.returns-in-Err-clause-items
returns-in-Err-clause-items g c = λ ord h o.
    take_err ord _ _ c.in-Err.field-0 c.self.view_is o (rw (← c.as_slice.ensures.value) (c.in-Err.ensures.bound, c.in-Err.ensures.position ord h))
