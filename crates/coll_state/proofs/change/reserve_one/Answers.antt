use Rattle.std.proofs.Common.{sym, ap, ◌∙◌}
use Rattle.std.specs.Option.{option_copied_mut}
use Rattle.std.specs.FinMap as map
use Rattle.coll_state.specs.Tables.{tables_in, stock_at}
use Rattle.coll_state.proofs.Named.{get_absent, left, is_some_there, none_there}
use Rattle.coll_state.proofs.Rooms.{gain_written}
use Rattle.coll_state.proofs.change.reserve_one.Goals as goal

pub unreachable-requires : goal.unreachable-requires
unreachable-requires c = none_there (map.get (tables_in c.args.tables.now) c.args.ns.now) (sym (get_absent c.args.tables.now c.args.ns.now (sym c.get_mut.ensures.value ∙ ap option_copied_mut c.in-None.is))) c.requires

pub returns-clause-tables : goal.returns-clause-tables
returns-clause-tables c = left c.args.tables.now (c.get_mut.follows.lender c.reserve_another.new.self) c.args.ns.now _ c.reserve_another.new.self (sym c.get_mut.ensures.value ∙ ap option_copied_mut c.in-Some.is) (c.get_mut.follows.holds c.reserve_another.new.self).3 c.reserve_another.ensures.table

pub returns-clause-ok : goal.returns-clause-ok
returns-clause-ok c =
    let there = sym c.get_mut.ensures.value ∙ ap option_copied_mut c.in-Some.is in
    gain_written c.args.tables.now (c.get_mut.follows.lender c.reserve_another.new.self) c.args.ns.now _ c.reserve_another.new.self there
    ((c.get_mut.follows.holds c.reserve_another.new.self).3 (is_some_there (stock_at c.args.tables.now c.args.ns.now) _ there)) c.in_ok-reserve_another-in-Some.ensures.ok

pub returns-in_err-reserve_another-in-Some-clause-tables : goal.returns-in_err-reserve_another-in-Some-clause-tables
returns-in_err-reserve_another-in-Some-clause-tables c = left c.args.tables.now (c.get_mut.follows.lender c.reserve_another.new.self) c.args.ns.now _ c.reserve_another.new.self (sym c.get_mut.ensures.value ∙ ap option_copied_mut c.in-Some.is) (c.get_mut.follows.holds c.reserve_another.new.self).3 c.reserve_another.ensures.table
