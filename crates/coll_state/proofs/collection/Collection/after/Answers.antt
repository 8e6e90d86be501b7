use Rattle.std.proofs.Common.{rules, List, sym, ap, ◌∙◌, take}
use Rattle.std.proofs.lemmas.Fn.{always_returns_same}
use Rattle.sorted_list.proofs.Order.{drop_place}
use Rattle.coll_state.specs.declared.collection.Record.{Record}
use Rattle.coll_state.specs.Rows.{scan}
use Rattle.coll_state.specs.Stock.{Stock, rows_in}
use Rattle.coll_state.proofs.Parts.{up_to, up_to_ordered, scanned}
use Rattle.coll_state.proofs.collection.Collection.after.Goals as goal

pub returns : goal.returns
returns c = λ n.
    let no = c.args.no in
    let records = c.self.inside.records.items in
    let behind = c.walk_from.ensures (up_to no) (always_returns_same _ _ _ (λ a r f called. (search rules, search rules))) (up_to_ordered no 0 records c.self.invariant.rising) in
    ap (λ (rs : List Record). rows_in (take n rs)) (behind ∙ sym (drop_place (up_to no) records))
    ∙ (sym (scanned no n 0 records c.self.invariant.rising)
    ∙ ap (λ (s : Stock). scan no n s.table.rows) c.self.view_is)
