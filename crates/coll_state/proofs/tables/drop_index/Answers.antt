use Rattle.std.proofs.Common.{sym, ap, ◌∙◌}
use Rattle.std.specs.Option.{option_copied_mut}
use Rattle.coll_state.specs.Changes.{take_index, has_index}
use Rattle.coll_state.specs.Tables.{tables_in}
use Rattle.coll_state.proofs.Named.{get_there, get_absent, written, not_there}
use Rattle.coll_state.proofs.tables.drop_index.Goals as goal

pub returns-in-Some-clause-tables : goal.returns-in-Some-clause-tables
returns-in-Some-clause-tables c =
    written c.args.tables.now (c.get_mut.follows.lender c.drop_index.new.self) c.args.ns.now _ c.drop_index.new.self (take_index c.args.name.now) (sym c.get_mut.ensures.value ∙ ap option_copied_mut c.in-Some.is) (c.get_mut.follows.holds c.drop_index.new.self).3 c.drop_index.ensures.table

pub returns-in-Some-clause-there : goal.returns-in-Some-clause-there
returns-in-Some-clause-there c = c.drop_index.ensures.there ∙ ap (has_index c.args.name.now) (sym (get_there c.args.tables.now c.args.ns.now _ (sym c.get_mut.ensures.value ∙ ap option_copied_mut c.in-Some.is)))

pub returns-in-None-clause-tables : goal.returns-in-None-clause-tables
returns-in-None-clause-tables c = ap tables_in c.get_mut.follows.holds-at-none ∙ not_there c.args.tables.now c.args.ns.now (take_index c.args.name.now) (sym c.get_mut.ensures.value ∙ ap option_copied_mut c.in-None.is)

pub returns-in-None-clause-there : goal.returns-in-None-clause-there
returns-in-None-clause-there c = ap (has_index c.args.name.now) (sym (get_absent c.args.tables.now c.args.ns.now (sym c.get_mut.ensures.value ∙ ap option_copied_mut c.in-None.is)))
