use Rattle.std.proofs.Common.{arith, sym, ap, ◌∙◌, Some}
use Rattle.std.specs.Option.{option_copied_mut}
use Rattle.bson_encode.specs.Key.{key_of}
use Rattle.coll_state.specs.Rows.{Rows}
use Rattle.coll_state.specs.ChangeAll.{changed_by}
use Rattle.coll_state.specs.Tables.{tables_in, stock_at}
use Rattle.coll_state.proofs.Named.{get_there, is_some_there}
use Rattle.coll_state.proofs.Rooms.{lose_written, put_is, remove_is}
use Rattle.coll_state.proofs.change.apply_one.Goals as goal

pub put-requires-clause-number : goal.put-requires-clause-number
put-requires-clause-number c =
    let there = sym c.get_mut.ensures.value ∙ ap option_copied_mut c.in-Some.is in
    let w = c.requires.sound c.args.change.ns c.in-Some.collection.now.table (get_there c.args.tables.now c.args.change.ns _ there) in
    omega (arith, w.1, c.requires.count)

pub returns-in-Some-document-clause-rows : goal.returns-in-Some-document-clause-rows
returns-in-Some-document-clause-rows c =
    let there = sym c.get_mut.ensures.value ∙ ap option_copied_mut c.in-Some.is in
    let s : Rows = record { tables = tables_in c.args.tables.now; count = c.args.count } in
    let up = (c.get_mut.follows.holds c.put.new.self).3 (is_some_there (stock_at c.args.tables.now c.args.change.ns) _ there) in
    put_is c.args.tables.now (c.get_mut.follows.lender c.put.new.self) c.args.count c.args.change.ns _ c.put.new.self c.args.change.key c.in-Some-document.document there up c.put.ensures.table
    ∙ (ap (λ i. changed_by c.args.change.ns i (Some c.in-Some-document.document) s) c.args.change.keyed
    ∙ ap (λ o. changed_by c.args.change.ns (key_of c.args.change.id) o s) (sym c.in-Some-document.is))

pub returns-in-Some-document-clause-keeps : goal.returns-in-Some-document-clause-keeps
returns-in-Some-document-clause-keeps c =
    let there = sym c.get_mut.ensures.value ∙ ap option_copied_mut c.in-Some.is in
    lose_written c.args.tables.now (c.get_mut.follows.lender c.put.new.self) c.args.change.ns _ c.put.new.self there ((c.get_mut.follows.holds c.put.new.self).3 (is_some_there (stock_at c.args.tables.now c.args.change.ns) _ there)) c.put.ensures.room

pub returns-clause-rows : goal.returns-clause-rows
returns-clause-rows c =
    let there = sym c.get_mut.ensures.value ∙ ap option_copied_mut c.in-Some.is in
    let s : Rows = record { tables = tables_in c.args.tables.now; count = c.args.count } in
    let up = (c.get_mut.follows.holds c.remove.new.self).3 (is_some_there (stock_at c.args.tables.now c.args.change.ns) _ there) in
    remove_is c.args.tables.now (c.get_mut.follows.lender c.remove.new.self) c.args.count c.args.change.ns _ c.remove.new.self (key_of c.args.change.id) there up c.remove.ensures.table
    ∙ ap (λ o. changed_by c.args.change.ns (key_of c.args.change.id) o s) (sym c.in-None.is)

pub returns-clause-keeps : goal.returns-clause-keeps
returns-clause-keeps c =
    let there = sym c.get_mut.ensures.value ∙ ap option_copied_mut c.in-Some.is in
    lose_written c.args.tables.now (c.get_mut.follows.lender c.remove.new.self) c.args.change.ns _ c.remove.new.self there ((c.get_mut.follows.holds c.remove.new.self).3 (is_some_there (stock_at c.args.tables.now c.args.change.ns) _ there)) (let r = c.remove.ensures.room in omega arith)
