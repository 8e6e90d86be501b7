use Rattle.std.proofs.Common.{rules, sym, ap, ◌∙◌, subst, Option}
use Rattle.std.specs.Borrow.{Bor}
use Rattle.std.proofs.lemmas.Fn.{always_returns_same}
use Rattle.sorted_list.specs.Order.{Shelf}
use Rattle.coll_state.specs.declared.collection.Record.{Record}
use Rattle.coll_state.specs.Documents.{records_in, under}
use Rattle.coll_state.specs.Rows.{Rising}
use Rattle.coll_state.specs.Stock.{rows_in}
use Rattle.coll_state.proofs.Records.{at_no, records_ordered}
use Rattle.coll_state.proofs.documents.record_under.Goals as goal

pub returns-in-Some : goal.returns-in-Some
returns-in-Some c = λ up.
    let order = records_ordered c.in-Some.records.now.items c.args.no (subst (λ (o : Option (Bor (Shelf Record))). Rising 0 (rows_in (records_in o))) c.in-Some.is up) in
    c.find_near.ensures (at_no c.args.no) (always_returns_same _ _ _ (λ a r f called. (search rules, search rules))) order
    ∙ ap (λ (o : Option (Bor (Shelf Record))). under (records_in o) c.args.no) (sym c.in-Some.is)
