use Rattle.std.proofs.Common.{sym, ap, ◌∙◌}
use Rattle.std.specs.Prelude.{is_some}
use Rattle.std.specs.Option.{option_copied_mut}
use Rattle.bson_encode.specs.Key.{key_of}
use Rattle.coll_state.specs.Changes.{drop_table}
use Rattle.coll_state.specs.Tables.{tables_in}
use Rattle.coll_state.proofs.Named.{get_absent, written, not_there, document_there}
use Rattle.coll_state.specs.Changes.{document_in}
use Rattle.coll_state.proofs.tables.remove.Goals as goal

pub returns-in-Some-clause-tables : goal.returns-in-Some-clause-tables
returns-in-Some-clause-tables c =
    written c.args.tables.now (c.get_mut.follows.lender c.remove.new.self) c.args.ns.now _ c.remove.new.self (drop_table (key_of c.args.id.now)) (sym c.get_mut.ensures.value ∙ ap option_copied_mut c.in-Some.is) (c.get_mut.follows.holds c.remove.new.self).3 c.remove.ensures.table

pub returns-in-Some-clause-there : goal.returns-in-Some-clause-there
returns-in-Some-clause-there c = c.remove.ensures.there ∙ sym (document_there c.args.tables.now c.args.ns.now (key_of c.args.id.now) _ (sym c.get_mut.ensures.value ∙ ap option_copied_mut c.in-Some.is))

pub returns-in-None-clause-tables : goal.returns-in-None-clause-tables
returns-in-None-clause-tables c = ap tables_in c.get_mut.follows.holds-at-none ∙ not_there c.args.tables.now c.args.ns.now (drop_table (key_of c.args.id.now)) (sym c.get_mut.ensures.value ∙ ap option_copied_mut c.in-None.is)

pub returns-in-None-clause-there : goal.returns-in-None-clause-there
returns-in-None-clause-there c = ap (λ (o : _). is_some (document_in (key_of c.args.id.now) o)) (sym (get_absent c.args.tables.now c.args.ns.now (sym c.get_mut.ensures.value ∙ ap option_copied_mut c.in-None.is)))
