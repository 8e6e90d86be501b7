use Rattle.std.proofs.Common.{ap, sym}
use Rattle.coll_state.specs.ChangeAll.{change_all}
use Rattle.store_core.specs.Stores.{Stored}
use Rattle.store_core.proofs.Elsewhere.{kept_of}
use Rattle.store_core.proofs.TogetherEffects.{kept_done, kept_refused}
use Rattle.store_core.proofs.store.Store.transaction.Goals as goal

pub changes_together-requires-clause-kept : goal.changes_together-requires-clause-kept
changes_together-requires-clause-kept c = kept_of c.args.indexes.now c.self.inside.state c.args.self.now.rows (ap (λ (z : Stored). z.rows) c.self.view_is) c.requires

pub returns-in-Ok-clause-kept : goal.returns-in-Ok-clause-kept
returns-in-Ok-clause-kept c =
    let t = c.in-Ok.transaction in
    kept_of c.changes_together.new.indexes (change_all t.changes c.args.self.now.rows) (change_all t.changes c.self.inside.state) (ap (λ (z : Stored). change_all t.changes z.rows) (sym c.self.view_is))
    (kept_done c.changes_together.result c.in_ok-transaction.field-0 t c.changes_together.new.indexes c.self.inside.state c.in_ok-transaction.was c.in-Ok.is c.changes_together.ensures.kept)

pub returns-in-Err-clause-kept : goal.returns-in-Err-clause-kept
returns-in-Err-clause-kept c =
    kept_of c.changes_together.new.indexes c.args.self.now.rows c.self.inside.state (ap (λ (z : Stored). z.rows) (sym c.self.view_is))
    (kept_refused c.changes_together.result c.in_ok-transaction.field-0 c.in-Err.row c.changes_together.new.indexes c.self.inside.state c.in_ok-transaction.was c.in-Err.is c.changes_together.ensures.kept)
