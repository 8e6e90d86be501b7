use Rattle.coll_state.specs.Changes.{drop_index}
use Rattle.copy_model.specs.Writes.{DropIndex}
use Rattle.store_core.proofs.Elsewhere.{kept_of, after_taken}
use Rattle.store_core.proofs.Sound.{sound_single}
use Rattle.store_core.proofs.store.Store.take_index.Goals as goal

pub invariant_of-self : goal.invariant_of-self
invariant_of-self c =
    sound_single (DropIndex c.args.ns.now c.args.name.now) c.self.inside.state c.drop_index.new.self c.self.inside.log c.add.new.self c.args.self.now c.args.bytes c.self.view_is c.self.invariant tt c.requires.holds c.drop_index.ensures.state c.add.ensures c.requires.few
    (kept_of c.forget.new.self c.drop_index.new.self (drop_index c.args.ns.now c.args.name.now c.self.inside.state) c.drop_index.ensures.state (c.forget.ensures.kept c.self.inside.state (drop_index c.args.ns.now c.args.name.now c.self.inside.state) c.self.invariant.kept (after_taken c.args.ns.now c.args.name.now c.self.inside.state)))
