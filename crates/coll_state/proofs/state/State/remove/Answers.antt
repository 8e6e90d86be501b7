use Rattle.std.proofs.Common.{sym, subst}
use Rattle.bson_encode.specs.Key.{key_of}
use Rattle.coll_state.specs.Changes.{drop_table}
use Rattle.coll_state.specs.Tables.{tables_in}
use Rattle.coll_state.proofs.Sound.{AreKeptWell, kept_there, drop_keeps}
use Rattle.coll_state.proofs.state.State.remove.Goals as goal

pub invariant_of-self : goal.invariant_of-self
invariant_of-self c =
    subst (AreKeptWell c.self.inside.count) (sym c.remove.ensures.tables)
    (kept_there c.self.inside.count (tables_in c.self.inside.tables) c.args.ns.now (drop_table (key_of c.args.id.now)) (drop_keeps c.self.inside.count (key_of c.args.id.now)) c.self.invariant)
