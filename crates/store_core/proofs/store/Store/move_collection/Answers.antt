use Rattle.std.proofs.Common.{ap, ◌∙◌}
use Rattle.coll_state.specs.Changes.{drop_ns, rename}
use Rattle.store_core.specs.Applying.{with_rename}
use Rattle.store_core.proofs.Elsewhere.{after_drop, after_rename, as_before, kept_of}
use Rattle.store_core.proofs.Sound.{sound_same, sound_rename}
use Rattle.store_core.proofs.store.Store.move_collection.Goals as goal

pub invariant_of-self : goal.invariant_of-self
invariant_of-self c =
    let r = c.self.inside.state in
    sound_same r c.rename.new.self c.self.inside.log c.self.invariant c.in_err-rename.ensures.err
    (c.forget-2.ensures.kept r r (c.forget.ensures.kept r r c.self.invariant.kept (as_before c.args.from.now r)) (as_before c.args.to.now r))

pub invariant_of-self-2 : goal.invariant_of-self-2
invariant_of-self-2 c =
    let r = c.self.inside.state in
    let from = c.args.from.now in
    let to = c.args.to.now in
    sound_rename from to r c.rename.new.self c.self.inside.log c.note_rename.new.self c.args.self.now c.args.bytes c.self.view_is c.self.invariant c.requires.holds c.in_ok-rename.ensures.ok
    (c.note_rename.ensures ∙ ap with_rename c.add.ensures) c.requires.few
    (kept_of c.forget-2.new.self c.rename.new.self (rename from to r) c.in_ok-rename.ensures.ok
    (c.forget-2.ensures.kept (drop_ns from r) (rename from to r) (c.forget.ensures.kept r (drop_ns from r) c.self.invariant.kept (after_drop from r)) (after_rename from to r)))
