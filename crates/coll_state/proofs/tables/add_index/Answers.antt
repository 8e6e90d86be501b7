use Rattle.std.proofs.Common.{sym, ap, ◌∙◌}
use Rattle.std.specs.Option.{option_copied_mut}
use Rattle.coll_state.specs.Changes.{put_index}
use Rattle.coll_state.specs.Definitions.{definition_name}
use Rattle.coll_state.specs.Tables.{tables_in}
use Rattle.coll_state.proofs.Named.{written, left, not_there, on_ok, on_err}
use Rattle.coll_state.proofs.tables.add_index.Goals as goal

pub returns-in-Some-clause-ok : goal.returns-in-Some-clause-ok
returns-in-Some-clause-ok c =
    let there = sym c.get_mut.ensures.value ∙ ap option_copied_mut c.in-Some.is in
    on_ok c.add_index.result (λ e. written c.args.tables.now (c.get_mut.follows.lender c.add_index.new.self) c.args.ns.now _ c.add_index.new.self (put_index (definition_name c.args.def) c.args.def) there (c.get_mut.follows.holds c.add_index.new.self).3 e) c.add_index.ensures.ok

pub returns-in-Some-clause-err : goal.returns-in-Some-clause-err
returns-in-Some-clause-err c =
    let there = sym c.get_mut.ensures.value ∙ ap option_copied_mut c.in-Some.is in
    on_err c.add_index.result (λ e. left c.args.tables.now (c.get_mut.follows.lender c.add_index.new.self) c.args.ns.now _ c.add_index.new.self there (c.get_mut.follows.holds c.add_index.new.self).3 e) c.add_index.ensures.err

pub returns-in-None-clause-ok : goal.returns-in-None-clause-ok
returns-in-None-clause-ok c = ap tables_in c.get_mut.follows.holds-at-none ∙ not_there c.args.tables.now c.args.ns.now (put_index (definition_name c.args.def) c.args.def) (sym c.get_mut.ensures.value ∙ ap option_copied_mut c.in-None.is)
