use Rattle.std.proofs.Common.{◌≡◌, sym, ap, ◌∙◌, subst, Some, true}
use Rattle.std.specs.FinMap as map
use Rattle.coll_state.specs.Changes.{Tables, renamed_in}
use Rattle.coll_state.specs.Tables.{tables_in}
use Rattle.coll_state.proofs.Named.{table_of, apart, placed_there, get_moved, moved, still_there}
use Rattle.coll_state.proofs.tables.rename.Goals as goal

pub replace-requires : goal.replace-requires
replace-requires c =
    let s = tables_in c.args.tables.now in
    let set = c.in_ok-set.ensures.ok in
    let apart = apart s c.args.from.now c.args.to.now c.requires.there c.requires.free in
    subst (λ (m : Tables). map.contains_key m c.args.to.now ≡ true) (sym (c.take.ensures.tables ∙ ap (λ (m : Tables). map.remove m c.args.from.now) set))
    (placed_there s c.args.from.now c.args.to.now c.new-place.result.table apart)

pub unreachable-requires : goal.unreachable-requires
unreachable-requires c =
    let s = tables_in c.args.tables.now in
    let set = c.in_ok-set.ensures.ok in
    still_there s c.args.from.now c.args.to.now c.new-place.result.table c.requires.there c.requires.free
    (sym (ap table_of c.in-None.is) ∙ (c.take.ensures.collection ∙ ap (λ (m : Tables). map.get m c.args.from.now) set))

pub returns-clause-ok : goal.returns-clause-ok
returns-clause-ok c =
    let s = tables_in c.args.tables.now in
    let set = c.in_ok-set.ensures.ok in
    let apart = apart s c.args.from.now c.args.to.now c.requires.there c.requires.free in
    let there : Some c.in-Some.collection.table ≡ map.get s c.args.from.now =
    sym (ap table_of c.in-Some.is) ∙ (c.take.ensures.collection ∙ (ap (λ (m : Tables). map.get m c.args.from.now) set ∙ get_moved s c.args.from.now c.args.to.now c.new-place.result.table apart)) in
    c.replace.ensures ∙ (ap (λ (m : Tables). map.insert m c.args.to.now c.set_incarnation.new.self.table) (c.take.ensures.tables ∙ ap (λ (m : Tables). map.remove m c.args.from.now) set)
    ∙ (moved s c.args.from.now c.args.to.now c.new-place.result.table c.set_incarnation.new.self.table
    ∙ (ap (map.insert (map.remove s c.args.from.now) c.args.to.now) c.set_incarnation.ensures
    ∙ ap (λ o. renamed_in c.args.from.now o c.args.to.now c.args.incarnation s) there)))
