use Rattle.coll_state.specs.Changes.{drop_ns}
use Rattle.copy_model.specs.Writes.{DropColl}
use Rattle.store_core.proofs.Elsewhere.{kept_of, after_drop}
use Rattle.store_core.proofs.Sound.{sound_single}
use Rattle.store_core.proofs.store.Store.take_collection.Goals as goal

pub invariant_of-self : goal.invariant_of-self
invariant_of-self c =
    sound_single (DropColl c.args.ns.now) c.self.inside.state c.drop_ns.new.self c.self.inside.log c.add.new.self c.args.self.now c.args.bytes c.self.view_is c.self.invariant tt c.requires.holds c.drop_ns.ensures.state c.add.ensures c.requires.few
    (kept_of c.forget.new.self c.drop_ns.new.self (drop_ns c.args.ns.now c.self.inside.state) c.drop_ns.ensures.state (c.forget.ensures.kept c.self.inside.state (drop_ns c.args.ns.now c.self.inside.state) c.self.invariant.kept (after_drop c.args.ns.now c.self.inside.state)))
