use Rattle.std.proofs.Common.{subst}
use Rattle.history_model.specs.Indexes.{IndexesHold}
use Rattle.store_core.specs.Stores.{Stored}
use Rattle.store_core.proofs.store.Store.indexes_hold.Goals as goal

pub returns : goal.returns
returns c = subst (λ (s : Stored). IndexesHold s.rows) c.self.view_is c.self.invariant.holds
