use Rattle.std.proofs.Common.{◌≡◌, ◌+◌, rules, sym, subst}
use Rattle.std.specs.FinMap as map
use Rattle.coll_state.specs.Changes.{described, under_names, or_fresh}
use Rattle.coll_state.specs.Tables.{tables_in}
use Rattle.coll_state.proofs.Sound.{AreKeptWell, kept_described}
use Rattle.coll_state.proofs.state.State.describe.Goals as goal

pub invariant_of-self : goal.invariant_of-self
invariant_of-self c =
    let same : tables_in c.describe.new.tables ≡ tables_in c.self.inside.tables = search rules in
    subst (AreKeptWell c.self.inside.count) (sym same) c.self.invariant

pub invariant_of-self-2 : goal.invariant_of-self-2
invariant_of-self-2 c =
    let n = c.args.ns.now in
    let old = tables_in c.self.inside.tables in
    let set : tables_in c.describe.new.tables ≡ map.insert old n (described c.args.options (under_names c.args.definitions) (or_fresh c.self.inside.count (map.get old n))) = search rules in
    subst (AreKeptWell (c.self.inside.count + 1)) (sym set) (kept_described c.self.inside.count old n c.args.options (under_names c.args.definitions) c.self.invariant)
