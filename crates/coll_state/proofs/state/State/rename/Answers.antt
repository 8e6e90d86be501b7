use Rattle.std.proofs.Common.{◌≡◌, ◌+◌, rules, sym, subst}
use Rattle.std.specs.FinMap as map
use Rattle.coll_state.specs.Changes.{renamed_in}
use Rattle.coll_state.specs.Tables.{tables_in}
use Rattle.coll_state.proofs.Sound.{AreKeptWell, kept_renamed}
use Rattle.coll_state.proofs.state.State.rename.Goals as goal

pub invariant_of-self : goal.invariant_of-self
invariant_of-self c =
    let same : tables_in c.rename.new.tables ≡ tables_in c.self.inside.tables = search rules in
    subst (AreKeptWell c.self.inside.count) (sym same) c.self.invariant

pub invariant_of-self-2 : goal.invariant_of-self-2
invariant_of-self-2 c =
    let set : tables_in c.rename.new.tables ≡ renamed_in c.args.from.now (map.get (tables_in c.self.inside.tables) c.args.from.now) c.args.to.now c.self.inside.count (tables_in c.self.inside.tables) = search rules in
    subst (AreKeptWell (c.self.inside.count + 1)) (sym set) (kept_renamed c.self.inside.count (tables_in c.self.inside.tables) c.args.from.now c.args.to.now c.self.invariant)
