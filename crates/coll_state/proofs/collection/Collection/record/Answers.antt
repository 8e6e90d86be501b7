use Rattle.std.proofs.Common.{◌≡◌, rules, ap, ◌∙◌, Some}
use Rattle.std.specs.Prelude.{option_map}
use Rattle.std.proofs.lemmas.Fn.{always_returns_same}
use Rattle.bson_encode.specs.Key.{key_of}
use Rattle.coll_state.specs.Rows.{row_of}
use Rattle.coll_state.specs.Stock.{Stock, row_in}
use Rattle.coll_state.proofs.RowLists.{no_in}
use Rattle.coll_state.proofs.Records.{at_no, records_ordered, found_row, looked}
use Rattle.coll_state.proofs.collection.Collection.record.Goals as goal

pub returns : goal.returns
returns c =
    let k = key_of c.args.id.now in
    let found = c.find_near.ensures (at_no c.in_ok-no.no) (always_returns_same _ _ _ (λ a r f called. (search rules, search rules))) (records_ordered _ c.in_ok-no.no c.self.invariant.rising) in
    let there : no_in (row_of c.args.self.now.table.rows k) ≡ Some c.in_ok-no.no = search rules in
    looked c.find_near.result ∙ (ap (option_map row_in) found
    ∙ (found_row 0 c.self.inside.records.items k c.in_ok-no.no c.self.invariant.rising (ap (λ (s : Stock). no_in (row_of s.table.rows k)) c.self.view_is ∙ there)
    ∙ ap (λ (s : Stock). row_of s.table.rows k) c.self.view_is))
