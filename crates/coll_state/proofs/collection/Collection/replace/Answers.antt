use Rattle.std.proofs.Common.{rules, sym, ap, ◌∙◌, refl}
use Rattle.std.proofs.lemmas.Fn.{always_returns_same}
use Rattle.coll_state.specs.Rows.{row_of, key_in, id_of}
use Rattle.coll_state.specs.Changes.{put_table}
use Rattle.coll_state.specs.Stock.{Stock, rows_in, table_in}
use Rattle.coll_state.proofs.RowLists.{no_in, row_found}
use Rattle.coll_state.proofs.Records.{at_no, records_ordered, set_row}
use Rattle.coll_state.proofs.Parts.{next_kept, parts_replaced, table_put}
use Rattle.coll_state.proofs.collection.Collection.replace.Goals as goal

pub invariant_of-self : goal.invariant_of-self
invariant_of-self c =
    let k = key_in (id_of c.args.document) in
    let there = ap (λ (s : Stock). no_in (row_of s.table.rows k)) c.self.view_is ∙ c.requires in
    let put = ap rows_in (c.set_near.ensures.items (at_no c.args.no) (always_returns_same _ _ _ (λ a r f called. (search rules, search rules))) (records_ordered _ c.args.no c.self.invariant.rising))
    ∙ set_row 0 c.self.inside.records.items k c.args.no c.self.inside.next _ refl refl c.self.invariant.rising there in
    parts_replaced c.self.inside.indexes c.self.inside.next c.args.no c.self.inside.numbers.items c.self.inside.records.items _ k c.args.document c.self.invariant there put

pub returns-clause-table : goal.returns-clause-table
returns-clause-table c =
    let k = key_in (id_of c.args.document) in
    let t = table_in c.self.inside.options c.self.inside.indexes c.self.inside.incarnation c.self.inside.next c.self.inside.records.items in
    let there = ap (λ (s : Stock). no_in (row_of s.table.rows k)) c.self.view_is ∙ c.requires in
    let put = ap rows_in (c.set_near.ensures.items (at_no c.args.no) (always_returns_same _ _ _ (λ a r f called. (search rules, search rules))) (records_ordered _ c.args.no c.self.invariant.rising))
    ∙ set_row 0 c.self.inside.records.items k c.args.no c.self.inside.next _ refl refl c.self.invariant.rising there in
    table_put t k c.args.document _ _ (sym (next_kept t.next (row_of t.rows k) (row_found t.rows k c.args.no (row_of t.rows k) refl there))) put
    ∙ ap (λ (s : Stock). put_table k c.args.document s.table) c.self.view_is
