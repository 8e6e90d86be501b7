use Rattle.std.proofs.Common.{sym, subst}
use Rattle.coll_state.specs.Tables.{tables_in}
use Rattle.coll_state.proofs.Sound.{AreKeptWell, kept_remove}
use Rattle.coll_state.proofs.state.State.drop_ns.Goals as goal

pub invariant_of-self : goal.invariant_of-self
invariant_of-self c = subst (AreKeptWell c.self.inside.count) (sym c.take.ensures.tables) (kept_remove c.self.inside.count (tables_in c.self.inside.tables) c.args.ns.now c.self.invariant)
