use Rattle.std.proofs.Common.{◌∙◌, ap}
use Rattle.coll_state.specs.ChangeAll.{change_all}
use Rattle.store_core.specs.Stores.{Stored}
use Rattle.store_core.proofs.Elsewhere.{kept_of}
use Rattle.store_core.proofs.TogetherEffects.{sound_changes}
use Rattle.store_core.proofs.store.Store.change.Goals as goal

pub invariant_of-self-2 : goal.invariant_of-self-2
invariant_of-self-2 c =
    sound_changes c.changes_are_writes.ensures.writes c.args.group.changes c.self.inside.state c.change.new.self c.self.inside.log c.add.new.self c.args.self.now c.args.group.bytes c.self.view_is c.self.invariant c.requires.good c.requires.count c.requires.holds
    c.in_ok-change.ensures.ok c.add.ensures c.requires.few
    (kept_of c.args.indexes c.change.new.self (change_all c.args.group.changes c.args.self.now.rows) (c.in_ok-change.ensures.ok ∙ ap (λ (z : Stored). change_all c.args.group.changes z.rows) c.self.view_is) c.requires.kept)
