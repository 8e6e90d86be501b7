use Rattle.std.proofs.Common.{refl, subst}
use Rattle.schedule_model.specs.declared.command.Command.TheVariants as commands
use Rattle.copy_model.specs.Writes as writes
use Rattle.history_model.specs.Entries as entries
use Rattle.history_model.specs.Indexes.{IndexesHold}
use Rattle.store_core.proofs.Made.{holds_one, made_one}
use Rattle.store_core.proofs.store.Store.drop_collection.Goals as goal

pub take_collection-requires-clause-holds : goal.take_collection-requires-clause-holds
take_collection-requires-clause-holds c = holds_one (commands.DropColl c.args.ns.now) c.args.self.now (writes.DropColl c.args.ns.now) (entries.DropColl c.args.ns.now) (subst (λ s. IndexesHold s.rows) c.self.view_is c.self.invariant.holds) c.in_ok-drop_of.ensures

pub returns : goal.returns
returns c =
    made_one (commands.DropColl c.args.ns.now) (writes.DropColl c.args.ns.now) (entries.DropColl c.args.ns.now) c.args.self.now c.take_collection.new.self c.in_ok-bytes.bytes c.next_ts.result refl c.in_ok-drop_of.ensures c.next_ts.ensures c.in_ok-bytes.ensures c.take_collection.ensures
