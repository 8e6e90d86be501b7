use Rattle.coll_state.specs.Changes.{add_index}
use Rattle.copy_model.specs.Writes.{AddIndex}
use Rattle.store_core.proofs.Elsewhere.{kept_of, after_index, as_before}
use Rattle.store_core.proofs.Sound.{sound_same, sound_single}
use Rattle.store_core.proofs.store.Store.put_index.Goals as goal

pub invariant_of-self : goal.invariant_of-self
invariant_of-self c = sound_same c.self.inside.state c.add_index.new.self c.self.inside.log c.self.invariant c.in_err-add_index.ensures.err (c.forget.ensures.kept c.self.inside.state c.self.inside.state c.self.invariant.kept (as_before c.args.ns.now c.self.inside.state))

pub invariant_of-self-2 : goal.invariant_of-self-2
invariant_of-self-2 c =
    sound_single (AddIndex c.args.ns.now c.args.def) c.self.inside.state c.add_index.new.self c.self.inside.log c.add.new.self c.args.self.now c.args.bytes c.self.view_is c.self.invariant tt c.requires.holds c.in_ok-add_index.ensures.ok c.add.ensures c.requires.few
    (kept_of c.forget.new.self c.add_index.new.self (add_index c.args.ns.now c.args.def c.self.inside.state) c.in_ok-add_index.ensures.ok (c.forget.ensures.kept c.self.inside.state (add_index c.args.ns.now c.args.def c.self.inside.state) c.self.invariant.kept (after_index c.args.ns.now c.args.def c.self.inside.state)))
