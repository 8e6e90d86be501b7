use Rattle.std.proofs.Common.{sym, ap, ◌∙◌, subst}
use Rattle.coll_state.specs.Changes.{put_index}
use Rattle.coll_state.specs.Definitions.{definition_name}
use Rattle.state_model.specs.Keys.{key_cmp}
use Rattle.coll_state.specs.Stock.{Stock, table_in, indexes_in, Rise}
use Rattle.coll_state.proofs.Parts.{named_added, named_set, rise_was_set, table_indexes, with_definitions}
use Rattle.coll_state.proofs.Parts.{placed_ok, placed_err, rise_tried, on_ok}
use Rattle.coll_state.proofs.collection.Collection.add_index.Goals as goal

pub invariant_of-self : goal.invariant_of-self
invariant_of-self c =
    let ds = c.self.inside.indexes in
    let f = placed_ok ds _ _ (definition_name c.args.def) c.in-Ok.at c.as_slice.ensures c.name_of.ensures c.self.invariant.definitions c.in-Ok.ensures.place in
    with_definitions ds _ c.self.inside.next c.self.inside.numbers.items c.self.inside.records.items c.self.invariant
    (subst (Rise key_cmp definition_name) (sym c.replace.ensures.new) (rise_was_set ds c.args.def c.in-Ok.at f c.self.invariant.definitions))

pub invariant_of-self-in-Err : goal.invariant_of-self-in-Err
invariant_of-self-in-Err c =
    let ds = c.self.inside.indexes in
    let g = placed_err ds _ _ (definition_name c.args.def) c.in-Err.at c.as_slice.ensures c.name_of.ensures c.self.invariant.definitions c.in-Err.ensures.place in
    with_definitions ds _ c.self.inside.next c.self.inside.numbers.items c.self.inside.records.items c.self.invariant
    (rise_tried c.insert.result ds c.insert.new.self c.args.def c.in-Err.at g c.self.invariant.definitions c.insert.ensures.ok c.insert.ensures.err)

pub returns-in-Ok-clause-ok : goal.returns-in-Ok-clause-ok
returns-in-Ok-clause-ok c =
    let ds = c.self.inside.indexes in
    let t = table_in c.self.inside.options ds c.self.inside.incarnation c.self.inside.next c.self.inside.records.items in
    let f = placed_ok ds _ _ (definition_name c.args.def) c.in-Ok.at c.as_slice.ensures c.name_of.ensures c.self.invariant.definitions c.in-Ok.ensures.place in
    table_indexes t _ _ (ap indexes_in c.replace.ensures.new ∙ named_set ds c.args.def c.in-Ok.at f c.self.invariant.definitions)
    ∙ ap (λ (s : Stock). put_index (definition_name c.args.def) c.args.def s.table) c.self.view_is

pub returns-in-Err-clause-ok : goal.returns-in-Err-clause-ok
returns-in-Err-clause-ok c =
    let ds = c.self.inside.indexes in
    let t = table_in c.self.inside.options ds c.self.inside.incarnation c.self.inside.next c.self.inside.records.items in
    let g = placed_err ds _ _ (definition_name c.args.def) c.in-Err.at c.as_slice.ensures c.name_of.ensures c.self.invariant.definitions c.in-Err.ensures.place in
    on_ok c.insert.result (λ e. table_indexes t _ _ (ap indexes_in e ∙ named_added ds c.args.def c.in-Err.at g)
    ∙ ap (λ (s : Stock). put_index (definition_name c.args.def) c.args.def s.table) c.self.view_is) c.insert.ensures.ok
