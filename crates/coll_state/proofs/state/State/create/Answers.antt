use Rattle.std.proofs.Common.{◌≡◌, ◌+◌, rules, sym, subst}
use Rattle.std.specs.FinMap as map
use Rattle.coll_state.specs.Changes.{fresh_table}
use Rattle.coll_state.specs.Tables.{tables_in}
use Rattle.coll_state.proofs.Sound.{AreKeptWell, later, kept_insert, fresh_keeps}
use Rattle.coll_state.proofs.state.State.create.Goals as goal

pub invariant_of-self : goal.invariant_of-self
invariant_of-self c =
    let same : tables_in c.set.new.tables ≡ tables_in c.self.inside.tables = search rules in
    subst (AreKeptWell c.self.inside.count) (sym same) c.self.invariant

pub invariant_of-self-2 : goal.invariant_of-self-2
invariant_of-self-2 c =
    let set : tables_in c.set.new.tables ≡ map.insert (tables_in c.self.inside.tables) c.args.ns.now (fresh_table c.self.inside.count c.args.options) = search rules in
    subst (AreKeptWell (c.self.inside.count + 1)) (sym set)
    (kept_insert (c.self.inside.count + 1) (tables_in c.self.inside.tables) c.args.ns.now _ (later c.self.inside.count (tables_in c.self.inside.tables) c.self.invariant) (fresh_keeps c.self.inside.count c.args.options))
