use Rattle.std.proofs.Common.{subst}
use Rattle.history_model.specs.Indexes.{IndexesHold}
use Rattle.store_core.proofs.InsertEffects.{create_holds}
use Rattle.store_core.proofs.store.Store.make_collection.Goals as goal

pub make-requires-clause-holds : goal.make-requires-clause-holds
make-requires-clause-holds c = create_holds c.args.ns.now c.in_ok-tree.tree c.args.self.now.rows (subst (λ s. IndexesHold s.rows) c.self.view_is c.self.invariant.holds)
