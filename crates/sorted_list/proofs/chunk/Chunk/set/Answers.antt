use Rattle.std.proofs.Common.{ap, ◌∙◌, set}
use Rattle.sorted_list.proofs.Order.{set_ok, set_err}
use Rattle.sorted_list.proofs.chunk.Chunk.set.Goals as goal

pub returns-in-Ok-clause-items : goal.returns-in-Ok-clause-items
returns-in-Ok-clause-items g c = λ ord h o.
    ap (set c.self.inside.items.items c.in-Ok.at) c.replace.ensures.after ∙ set_ok ord _ _ c.in-Ok.at c.args.item c.self.view_is o (rw (← c.as_slice.ensures.value) (c.in-Ok.ensures.bound, c.in-Ok.ensures.position ord h))

pub returns-in-Err-clause-items : goal.returns-in-Err-clause-items
returns-in-Err-clause-items g c = λ ord h o.
    set_err ord _ _ c.in-Err.field-0 c.args.item c.self.view_is o (rw (← c.as_slice.ensures.value) (c.in-Err.ensures.bound, c.in-Err.ensures.position ord h))
