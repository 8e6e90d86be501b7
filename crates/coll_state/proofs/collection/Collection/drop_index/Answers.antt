use Rattle.std.proofs.Common.{sym, ap, ◌∙◌, refl, subst}
use Rattle.std.specs.FinMap as map
use Rattle.coll_state.specs.Changes.{take_index}
use Rattle.coll_state.specs.Definitions.{definition_name}
use Rattle.state_model.specs.Keys.{key_cmp}
use Rattle.coll_state.specs.Stock.{Stock, table_in, indexes_in, Rise}
use Rattle.coll_state.proofs.Parts.{named_removed, rise_removed, named_there, named_absent, named_stays, table_indexes, with_definitions}
use Rattle.coll_state.proofs.Parts.{placed_ok, placed_err}
use Rattle.coll_state.proofs.collection.Collection.drop_index.Goals as goal

pub invariant_of-self : goal.invariant_of-self
invariant_of-self c =
    let ds = c.self.inside.indexes in
    let f = placed_ok ds _ _ c.args.name.now c.in-Ok.at c.as_slice.ensures refl c.self.invariant.definitions c.in-Ok.ensures.place in
    with_definitions ds _ c.self.inside.next c.self.inside.numbers.items c.self.inside.records.items c.self.invariant
    (subst (Rise key_cmp definition_name) (sym c.remove.ensures.new) (rise_removed ds c.args.name.now c.remove.result c.in-Ok.at f c.self.invariant.definitions))

pub returns-in-Ok-clause-there : goal.returns-in-Ok-clause-there
returns-in-Ok-clause-there c =
    let ds = c.self.inside.indexes in
    let f = placed_ok ds _ _ c.args.name.now c.in-Ok.at c.as_slice.ensures refl c.self.invariant.definitions c.in-Ok.ensures.place in
    sym (named_there ds c.args.name.now c.remove.result c.in-Ok.at f) ∙ ap (λ (s : Stock). map.contains_key s.table.indexes c.args.name.now) c.self.view_is

pub returns-in-Ok-clause-table : goal.returns-in-Ok-clause-table
returns-in-Ok-clause-table c =
    let ds = c.self.inside.indexes in
    let t = table_in c.self.inside.options ds c.self.inside.incarnation c.self.inside.next c.self.inside.records.items in
    let f = placed_ok ds _ _ c.args.name.now c.in-Ok.at c.as_slice.ensures refl c.self.invariant.definitions c.in-Ok.ensures.place in
    table_indexes t _ _ (ap indexes_in c.remove.ensures.new ∙ named_removed ds c.args.name.now c.remove.result c.in-Ok.at f c.self.invariant.definitions)
    ∙ ap (λ (s : Stock). take_index c.args.name.now s.table) c.self.view_is

pub returns-in-Err-clause-there : goal.returns-in-Err-clause-there
returns-in-Err-clause-there c =
    let ds = c.self.inside.indexes in
    let g = placed_err ds _ _ c.args.name.now c.in-Err.field-0 c.as_slice.ensures refl c.self.invariant.definitions c.in-Err.ensures.place in
    sym (named_absent ds c.args.name.now c.in-Err.field-0 g) ∙ ap (λ (s : Stock). map.contains_key s.table.indexes c.args.name.now) c.self.view_is

pub returns-in-Err-clause-table : goal.returns-in-Err-clause-table
returns-in-Err-clause-table c =
    let ds = c.self.inside.indexes in
    let t = table_in c.self.inside.options ds c.self.inside.incarnation c.self.inside.next c.self.inside.records.items in
    let g = placed_err ds _ _ c.args.name.now c.in-Err.field-0 c.as_slice.ensures refl c.self.invariant.definitions c.in-Err.ensures.place in
    ap (λ (s : Stock). s.table) (sym c.self.view_is) ∙ (table_indexes t _ _ (sym (named_stays ds c.args.name.now c.in-Err.field-0 g))
    ∙ ap (λ (s : Stock). take_index c.args.name.now s.table) c.self.view_is)
