use Rattle.std.proofs.Common.{refl, ap, ◌∙◌}
use Rattle.state_model.specs.States.{no_options}
use Rattle.coll_state.specs.Rows.{id_of, key_in}
use Rattle.coll_state.specs.Changes.{put, create}
use Rattle.copy_model.specs.Writes.{Put, Create}
use Rattle.store_log.specs.Logged.{logged}
use Rattle.store_core.proofs.Elsewhere.{kept_of, after_both, as_before}
use Rattle.store_core.proofs.Sound.{sound_same, sound_two}
use Rattle.store_core.proofs.store.Store.put_first.Goals as goal

pub invariant_of-self : goal.invariant_of-self
invariant_of-self c = sound_same c.self.inside.state c.put_first.new.self c.self.inside.log c.self.invariant c.in_err-put_first.ensures.err (c.forget.ensures.kept c.self.inside.state c.self.inside.state c.self.invariant.kept (as_before c.args.ns.now c.self.inside.state))

pub invariant_of-self-2 : goal.invariant_of-self-2
invariant_of-self-2 c =
    sound_two (Create c.args.ns.now no_options) (Put c.args.ns.now (key_in (id_of c.args.doc)) c.args.doc) c.self.inside.state c.put_first.new.self c.self.inside.log c.add-2.new.self c.args.self.now c.args.creation c.args.bytes c.self.view_is c.self.invariant tt (refl, c.requires.short) c.requires.holds
    c.in_ok-put_first.ensures.ok (c.add-2.ensures ∙ ap (logged c.args.bytes) c.add.ensures) c.requires.few
    (kept_of c.forget.new.self c.put_first.new.self (put c.args.ns.now c.args.doc (create c.args.ns.now no_options c.self.inside.state)) c.in_ok-put_first.ensures.ok (c.forget.ensures.kept c.self.inside.state (put c.args.ns.now c.args.doc (create c.args.ns.now no_options c.self.inside.state)) c.self.invariant.kept (after_both c.args.ns.now no_options c.args.doc c.self.inside.state)))
