use Rattle.std.proofs.Common.{sym, subst}
use Rattle.coll_state.specs.Changes.{remove}
use Rattle.copy_model.specs.Writes.{Remove}
use Rattle.bson_encode.specs.Key.{key_of}
use Rattle.history_model.specs.Indexes.{IndexesHold}
use Rattle.store_core.specs.Stores.{Stored}
use Rattle.store_core.proofs.Elsewhere.{kept_of}
use Rattle.store_core.proofs.Sound.{sound_single}
use Rattle.store_core.proofs.store.Store.remove.Goals as goal

pub invariant_of-self : goal.invariant_of-self
invariant_of-self c =
    sound_single (Remove c.args.ns.now (key_of c.args.id.now)) c.self.inside.state c.remove-2.new.self c.self.inside.log c.add.new.self c.args.self.now c.args.bytes c.self.view_is c.self.invariant tt c.requires.holds c.remove-2.ensures.state c.add.ensures c.requires.few
    (kept_of c.remove.new.self c.remove-2.new.self (remove c.args.ns.now (key_of c.args.id.now) c.self.inside.state) c.remove-2.ensures.state
    (c.remove.ensures.kept c.self.inside.state c.self.invariant.kept (subst (λ (s : Stored). IndexesHold (remove c.args.ns.now (key_of c.args.id.now) s.rows)) (sym c.self.view_is) c.requires.holds)))
