use Rattle.std.proofs.Common.{◌≡◌, rules, sym, ap, ◌∙◌, None}
use Rattle.std.specs.Option.{option_copied_mut}
use Rattle.std.specs.FinMap as map
use Rattle.coll_state.specs.Changes.{put_table, or_fresh}
use Rattle.coll_state.specs.Tables.{tables_in, stock_at}
use Rattle.coll_state.proofs.Named.{updated, get_there, get_absent, left, is_some_there, on_ok, on_err}
use Rattle.coll_state.proofs.tables.put.Goals as goal

pub put_one-requires-clause-number : goal.put_one-requires-clause-number
put_one-requires-clause-number c = c.requires.number c.in-Some.collection.now.table (get_there c.args.tables.now c.args.ns.now _ (sym c.get_mut.ensures.value ∙ ap option_copied_mut c.in-Some.is))

pub returns-in-Some-clause-ok : goal.returns-in-Some-clause-ok
returns-in-Some-clause-ok c =
    let there = sym c.get_mut.ensures.value ∙ ap option_copied_mut c.in-Some.is in
    on_ok c.put_one.result (λ e. updated c.args.tables.now (c.get_mut.follows.lender c.put_one.new.self) c.args.ns.now c.put_one.new.self _ ((c.get_mut.follows.holds c.put_one.new.self).3 (is_some_there (stock_at c.args.tables.now c.args.ns.now) _ there)).0 e
    ∙ ap (λ o. map.insert (tables_in c.args.tables.now) c.args.ns.now (put_table c.args.key c.args.document (or_fresh c.args.incarnation o))) (sym (get_there c.args.tables.now c.args.ns.now _ there))) c.put_one.ensures.ok

pub returns-in-Some-clause-err : goal.returns-in-Some-clause-err
returns-in-Some-clause-err c =
    on_err c.put_one.result (λ e. left c.args.tables.now (c.get_mut.follows.lender c.put_one.new.self) c.args.ns.now _ c.put_one.new.self (sym c.get_mut.ensures.value ∙ ap option_copied_mut c.in-Some.is) (c.get_mut.follows.holds c.put_one.new.self).3 e) c.put_one.ensures.err

pub returns-in_ok-made-in-None-clause-ok : goal.returns-in_ok-made-in-None-clause-ok
returns-in_ok-made-in-None-clause-ok c =
    let absent = get_absent c.args.tables.now c.args.ns.now (sym c.get_mut.ensures.value ∙ ap option_copied_mut c.in-None.is) in
    let made : c.in_ok-made-in-None.made.table ≡ put_table c.args.key c.args.document (or_fresh c.args.incarnation None) = search rules in
    on_ok c.set.result (λ e. e ∙ (ap (λ (m : _). map.insert (tables_in m) c.args.ns.now c.in_ok-made-in-None.made.table) c.get_mut.follows.holds-at-none
    ∙ (ap (map.insert (tables_in c.args.tables.now) c.args.ns.now) made
    ∙ ap (λ (o : _). map.insert (tables_in c.args.tables.now) c.args.ns.now (put_table c.args.key c.args.document (or_fresh c.args.incarnation o))) (sym absent)))) c.set.ensures.ok
