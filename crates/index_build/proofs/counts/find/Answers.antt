use Rattle.std.proofs.Common.{refl}
use Rattle.sorted_list.proofs.Order.{find_ok, find_err}
use Rattle.index_build.proofs.counts.find.Goals as goal

pub returns-in-Ok : goal.returns-in-Ok
returns-in-Ok g c = λ ord h o. find_ok ord _ _ c.in-Ok.at _ refl o (c.in-Ok.ensures.bound, c.in-Ok.ensures.position ord h) c.index-items-at.is

pub returns-in-Err : goal.returns-in-Err
returns-in-Err g c = λ ord h o. find_err ord _ _ c.in-Err.field-0 refl o (c.in-Err.ensures.bound, c.in-Err.ensures.position ord h)
