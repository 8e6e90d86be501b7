use Rattle.coll_state.specs.Changes.{create}
use Rattle.copy_model.specs.Writes.{Create}
use Rattle.store_core.proofs.Elsewhere.{kept_of, after_create, as_before}
use Rattle.store_core.proofs.Sound.{sound_same, sound_single}
use Rattle.store_core.proofs.store.Store.make.Goals as goal

pub invariant_of-self : goal.invariant_of-self
invariant_of-self c = sound_same c.self.inside.state c.create.new.self c.self.inside.log c.self.invariant c.in_err-create.ensures.err (c.forget.ensures.kept c.self.inside.state c.self.inside.state c.self.invariant.kept (as_before c.args.ns.now c.self.inside.state))

pub invariant_of-self-2 : goal.invariant_of-self-2
invariant_of-self-2 c =
    sound_single (Create c.args.ns.now c.args.options) c.self.inside.state c.create.new.self c.self.inside.log c.add.new.self c.args.self.now c.args.bytes c.self.view_is c.self.invariant tt c.requires.holds c.in_ok-create.ensures.ok c.add.ensures c.requires.few
    (kept_of c.forget.new.self c.create.new.self (create c.args.ns.now c.args.options c.self.inside.state) c.in_ok-create.ensures.ok (c.forget.ensures.kept c.self.inside.state (create c.args.ns.now c.args.options c.self.inside.state) c.self.invariant.kept (after_create c.args.ns.now c.args.options c.self.inside.state)))
