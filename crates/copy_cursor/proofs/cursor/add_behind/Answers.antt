use Rattle.std.proofs.Common.{◌≡◌, ◌++◌, ℕ, List, sym, ap, ◌∙◌, subst}
use Rattle.std.specs.FinMap as map
use Rattle.coll_state.specs.Rows.{Rows}
use Rattle.coll_state.specs.Changes.{rows_after}
use Rattle.coll_state.specs.Walks.{looks, looks_left}
use Rattle.copy_cursor.specs.Looks.{Item, AllShort, texts_shown, last_shown}
use Rattle.copy_cursor.proofs.Shown.{texts_of_rows, last_of_rows, short_looks}
use Rattle.copy_cursor.proofs.cursor.add_behind.Goals as goal

pub add_all-requires : goal.add_all-requires
add_all-requires c =
    let shown : looks_left c.after-documents.result ≡ looks (rows_after c.args.position c.args.n (map.get c.args.store.now.rows.tables c.args.ns.now)) =
    c.after-documents.ensures ∙ ap (λ (s : Rows). looks (rows_after c.args.position c.args.n (map.get s.tables c.args.ns.now))) c.state.ensures in
    subst AllShort (sym shown) (short_looks c.args.position c.args.n c.args.store.now.rows c.args.ns.now c.is_short.ensures)

pub returns-in-Ok-clause-last : goal.returns-in-Ok-clause-last
returns-in-Ok-clause-last c =
    let shown : looks_left c.after-documents.result ≡ looks (rows_after c.args.position c.args.n (map.get c.args.store.now.rows.tables c.args.ns.now)) =
    c.after-documents.ensures ∙ ap (λ (s : Rows). looks (rows_after c.args.position c.args.n (map.get s.tables c.args.ns.now))) c.state.ensures in
    c.in-Ok.ensures.last ∙ (ap (last_shown c.args.position) shown ∙ last_of_rows c.args.position (rows_after c.args.position c.args.n (map.get c.args.store.now.rows.tables c.args.ns.now)))

pub returns-in-Ok-clause-documents : goal.returns-in-Ok-clause-documents
returns-in-Ok-clause-documents c =
    let shown : looks_left c.after-documents.result ≡ looks (rows_after c.args.position c.args.n (map.get c.args.store.now.rows.tables c.args.ns.now)) =
    c.after-documents.ensures ∙ ap (λ (s : Rows). looks (rows_after c.args.position c.args.n (map.get s.tables c.args.ns.now))) c.state.ensures in
    c.in-Ok.ensures.texts
    ∙ (ap (λ (z : List Item). c.args.out.now ++ texts_shown z) shown
    ∙ ap (λ (z : List (List ℕ)). c.args.out.now ++ z) (texts_of_rows (rows_after c.args.position c.args.n (map.get c.args.store.now.rows.tables c.args.ns.now))))
