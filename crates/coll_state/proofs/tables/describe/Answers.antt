use Rattle.std.proofs.Common.{◌≡◌, rules, sym, ap, ◌∙◌, None}
use Rattle.std.specs.Option.{option_copied_mut}
use Rattle.std.specs.FinMap as map
use Rattle.coll_state.specs.Rows.{Table}
use Rattle.coll_state.specs.Changes.{described, fresh_table, under_names, or_fresh}
use Rattle.coll_state.specs.Tables.{tables_in, stock_at}
use Rattle.coll_state.proofs.Named.{updated, get_there, get_absent, is_some_there, on_ok}
use Rattle.coll_state.proofs.tables.describe.Goals as goal

pub returns-in-Some-clause-ok : goal.returns-in-Some-clause-ok
returns-in-Some-clause-ok c =
    let there = sym c.get_mut.ensures.value ∙ ap option_copied_mut c.in-Some.is in
    let made : c.in_ok-made.made.table ≡ described c.args.options (under_names c.args.definitions) (fresh_table c.args.incarnation c.args.options) = search rules in
    updated c.args.tables.now (c.get_mut.follows.lender c.describe.new.self) c.args.ns.now c.describe.new.self _ ((c.get_mut.follows.holds c.describe.new.self).3 (is_some_there (stock_at c.args.tables.now c.args.ns.now) _ there)).0 c.describe.ensures
    ∙ (ap (λ (t : Table). map.insert (tables_in c.args.tables.now) c.args.ns.now (described t.options t.indexes c.in-Some.collection.now.table)) made
    ∙ ap (λ o. map.insert (tables_in c.args.tables.now) c.args.ns.now (described c.args.options (under_names c.args.definitions) (or_fresh c.args.incarnation o))) (sym (get_there c.args.tables.now c.args.ns.now _ there)))

pub returns-in-None-clause-ok : goal.returns-in-None-clause-ok
returns-in-None-clause-ok c =
    let absent = get_absent c.args.tables.now c.args.ns.now (sym c.get_mut.ensures.value ∙ ap option_copied_mut c.in-None.is) in
    let made : c.in_ok-made.made.table ≡ described c.args.options (under_names c.args.definitions) (or_fresh c.args.incarnation None) = search rules in
    on_ok c.set.result (λ e. e ∙ (ap (λ (m : _). map.insert (tables_in m) c.args.ns.now c.in_ok-made.made.table) c.get_mut.follows.holds-at-none
    ∙ (ap (map.insert (tables_in c.args.tables.now) c.args.ns.now) made
    ∙ ap (λ (o : _). map.insert (tables_in c.args.tables.now) c.args.ns.now (described c.args.options (under_names c.args.definitions) (or_fresh c.args.incarnation o))) (sym absent)))) c.set.ensures.ok
