use Rattle.std.proofs.Common.{refl, sym, subst}
use Rattle.copy_model.specs.Writes.{Put}
use Rattle.coll_state.specs.Changes.{put}
use Rattle.coll_state.specs.Rows.{id_of, key_in}
use Rattle.history_model.specs.Indexes.{IndexesHold}
use Rattle.store_core.specs.Stores.{Stored}
use Rattle.store_core.proofs.Elsewhere.{kept_of, before_put}
use Rattle.store_core.proofs.Sound.{sound_single, sound_same}
use Rattle.store_core.proofs.store.Store.put.Goals as goal

pub invariant_of-self : goal.invariant_of-self
invariant_of-self c =
    let r = c.self.inside.state in
    let after = put c.args.ns.now c.args.doc.now r in
    let hold = subst (λ (s : Stored). IndexesHold (put c.args.ns.now c.args.doc.now s.rows)) (sym c.self.view_is) c.requires.holds in
    sound_single (Put c.args.ns.now (key_in (id_of c.args.doc.now)) c.args.doc.now) r c.put_spelled.new.state c.self.inside.log c.add.new.self c.args.self.now c.args.bytes c.self.view_is c.self.invariant (refl, c.requires.short) c.requires.holds c.in-Ok.ensures.ok c.add.ensures c.requires.few
    (kept_of c.put.new.self c.put_spelled.new.state after c.in-Ok.ensures.ok (c.put.ensures.kept r c.self.invariant.kept c.is_sound.ensures hold))

pub invariant_of-self-in-Err-1 : goal.invariant_of-self-in-Err-1
invariant_of-self-in-Err-1 c =
    let r = c.self.inside.state in
    let hold = subst (λ (s : Stored). IndexesHold (put c.args.ns.now c.args.doc.now s.rows)) (sym c.self.view_is) c.requires.holds in
    sound_same r c.put_spelled.new.state c.self.inside.log c.self.invariant c.in-Err.ensures.err
    (c.forget.ensures.kept (put c.args.ns.now c.args.doc.now r) r (c.put.ensures.kept r c.self.invariant.kept c.is_sound.ensures hold) (before_put c.args.ns.now c.args.doc.now r))
