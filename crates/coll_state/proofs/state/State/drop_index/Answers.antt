use Rattle.std.proofs.Common.{sym, subst}
use Rattle.coll_state.specs.Changes.{take_index}
use Rattle.coll_state.specs.Tables.{tables_in}
use Rattle.coll_state.proofs.Sound.{AreKeptWell, kept_there, no_index_keeps}
use Rattle.coll_state.proofs.state.State.drop_index.Goals as goal

pub invariant_of-self : goal.invariant_of-self
invariant_of-self c =
    subst (AreKeptWell c.self.inside.count) (sym c.drop_index.ensures.tables)
    (kept_there c.self.inside.count (tables_in c.self.inside.tables) c.args.ns.now (take_index c.args.name.now) (no_index_keeps c.self.inside.count c.args.name.now) c.self.invariant)
