use Rattle.std.proofs.Common.{◌≡◌, rules, Some, sym, ap, ◌∙◌}
use Rattle.std.specs.Option.{option_copied}
use Rattle.std.proofs.lemmas.Fn.{always_returns_same}
use Rattle.state_model.specs.Keys.{Key}
use Rattle.coll_state.specs.Rows.{row_of}
use Rattle.coll_state.specs.Stock.{Stock, rows_in}
use Rattle.coll_state.proofs.RowLists.{no_in}
use Rattle.coll_state.proofs.Records.{at_no, records_ordered, found_keyed}
use Rattle.coll_state.proofs.collection.Collection.hinted_number.Goals as goal

pub returns-then-is_under : goal.returns-then-is_under
returns-then-is_under c =
    let n = c.in_ok-no.no in
    let rs = c.self.inside.records.items in
    let r = c.in_ok-record.record.now in
    let found = c.find_near.ensures (at_no n) (always_returns_same _ _ _ (λ a r f called. (search rules, search rules))) (records_ordered rs n c.self.invariant.rising) in
    let is : c.find_near.result ≡ Some c.in_ok-record.record = search rules in
    let row = found_keyed 0 rs n r c.self.invariant.rising (sym found ∙ ap option_copied is) in
    sym (ap (λ (s : Stock). no_in (row_of s.table.rows c.args.key.now)) c.self.view_is)
    ∙ (ap (λ (k : Key). no_in (row_of (rows_in rs) k)) (sym (c.is_under.ensures c.if-is_under.true ∙ c.as_slice-2.ensures)) ∙ ap no_in row)
