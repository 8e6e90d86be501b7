use Rattle.std.proofs.Common.{sym, subst}
use Rattle.state_model.specs.Keys.{same_key}
use Rattle.coll_state.specs.Tables.{tables_in}
use Rattle.coll_state.proofs.Sound.{AreKeptWell, kept_retain}
use Rattle.std.specs.Prelude.{not}
use Rattle.coll_state.proofs.state.State.drop_db.Goals as goal

pub invariant_of-self : goal.invariant_of-self
invariant_of-self c = subst (AreKeptWell c.self.inside.count) (sym c.drop_db.ensures.tables) (kept_retain c.self.inside.count (tables_in c.self.inside.tables) (λ n. not (same_key n.db c.args.db.now)) c.self.invariant)
