use Rattle.std.proofs.Common.{ap}
use Rattle.coll_state.specs.Changes.{no_rows}
use Rattle.store_core.proofs.Sound.{sound_first}
use Rattle.store_core.proofs.store.Store.new.Goals as goal

pub invariant_of-result : goal.invariant_of-result
invariant_of-result c = sound_first c.new-4.result c.new-2.result c.new-3.result c.new-2.ensures (ap (λ l. l.recorded) c.new-3.ensures) (c.new-4.ensures.kept no_rows)
