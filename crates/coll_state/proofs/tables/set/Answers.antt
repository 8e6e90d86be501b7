use Rattle.std.proofs.Common.{◌≡◌, rules, ap, ◌∙◌, refl}
use Rattle.std.specs.FinMap as map
use Rattle.coll_state.specs.Tables.{tables_in}
use Rattle.coll_state.proofs.Named.{updated}
use Rattle.coll_state.proofs.tables.set.Goals as goal

pub returns-in-Ok-clause-ok : goal.returns-in-Ok-clause-ok
returns-in-Ok-clause-ok c =
    let name : c.in_ok-name.name ≡ c.args.ns.now = search rules in
    updated c.args.tables.now c.insert.new.self c.in_ok-name.name c.args.collection c.args.collection.table c.in-Ok.ensures.updates.0 refl ∙ ap (λ n. map.insert (tables_in c.args.tables.now) n c.args.collection.table) name
