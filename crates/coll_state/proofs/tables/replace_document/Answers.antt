use Rattle.std.proofs.Common.{sym, ap, ◌∙◌}
use Rattle.std.specs.Option.{option_copied_mut}
use Rattle.coll_state.specs.Rows.{key_in, id_of}
use Rattle.coll_state.specs.Changes.{number_in, put_table}
use Rattle.coll_state.specs.Tables.{tables_in}
use Rattle.coll_state.proofs.Named.{get_there, written, not_there}
use Rattle.coll_state.proofs.tables.replace_document.Goals as goal

pub replace-requires : goal.replace-requires
replace-requires c =
    sym (ap (number_in (key_in (id_of c.args.document))) (get_there c.args.tables.now c.args.ns.now _ (sym c.get_mut.ensures.value ∙ ap option_copied_mut c.in-Some.is))) ∙ c.requires

pub returns-in-Some : goal.returns-in-Some
returns-in-Some c =
    written c.args.tables.now (c.get_mut.follows.lender c.replace.new.self) c.args.ns.now _ c.replace.new.self (put_table (key_in (id_of c.args.document)) c.args.document) (sym c.get_mut.ensures.value ∙ ap option_copied_mut c.in-Some.is) (c.get_mut.follows.holds c.replace.new.self).3 c.replace.ensures.table

pub returns-in-None : goal.returns-in-None
returns-in-None c = ap tables_in c.get_mut.follows.holds-at-none ∙ not_there c.args.tables.now c.args.ns.now (put_table (key_in (id_of c.args.document)) c.args.document) (sym c.get_mut.ensures.value ∙ ap option_copied_mut c.in-None.is)
