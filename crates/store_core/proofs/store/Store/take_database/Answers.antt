use Rattle.copy_model.specs.Writes.{DropDb}
use Rattle.coll_state.specs.Changes.{drop_db}
use Rattle.store_core.proofs.Elsewhere.{kept_of}
use Rattle.store_core.proofs.Sound.{sound_single}
use Rattle.store_core.proofs.store.Store.take_database.Goals as goal

pub invariant_of-self : goal.invariant_of-self
invariant_of-self c =
    let db = c.args.db.now in
    let r = c.self.inside.state in
    sound_single (DropDb db) r c.drop_db.new.self c.self.inside.log c.add.new.self c.args.self.now c.args.bytes c.self.view_is c.self.invariant tt c.requires.holds c.drop_db.ensures.state c.add.ensures c.requires.few
    (kept_of c.forget_database.new.indexes c.drop_db.new.self (drop_db db r) c.drop_db.ensures.state c.forget_database.ensures)
