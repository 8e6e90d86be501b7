use Rattle.std.proofs.Common.{◌∙◌}
use Rattle.sorted_list.proofs.Order.{place_ok, place_err}
use Rattle.sorted_list.proofs.chunk.Chunk.place.Goals as goal

pub returns-in-Ok-clause-place : goal.returns-in-Ok-clause-place
returns-in-Ok-clause-place g c = λ ord h o.
    place_ok ord _ _ c.in-Ok.at (c.as_slice.ensures.value ∙ c.self.view_is) o (c.in-Ok.ensures.bound, c.in-Ok.ensures.position ord h)

pub returns-in-Err-clause-place : goal.returns-in-Err-clause-place
returns-in-Err-clause-place g c = λ ord h o.
    place_err ord _ _ c.in-Err.at (c.as_slice.ensures.value ∙ c.self.view_is) o (c.in-Err.ensures.bound, c.in-Err.ensures.position ord h)
