use Rattle.std.proofs.Common.{◌≡◌, Err, sym, rules}
use Rattle.archive_prelude.proofs.Shaped.{no_db, no_coll, no_text, right_ns, wrong_ns}
use Rattle.archive_prelude.proofs.reading.read_meta.Goals as goal

pub returns-in_err-db-clause-err : goal.returns-in_err-db-clause-err
returns-in_err-db-clause-err c =
    let is : c.from_residual.result ≡ Err c.in_err-db.field-0.0 = search rules in
    rw is (no_db c.args.doc.now _ c.in_err-db.ensures)

pub returns-in_err-coll-clause-err : goal.returns-in_err-coll-clause-err
returns-in_err-coll-clause-err c =
    let is : c.from_residual-in_err-coll.result ≡ Err c.in_err-coll.field-0.0 = search rules in
    rw is (no_coll c.args.doc.now _ _ c.in_ok-db.ensures c.in_err-coll.ensures)

pub returns-in_err-text-clause-err : goal.returns-in_err-text-clause-err
returns-in_err-text-clause-err c =
    let is : c.from_residual-in_err-text.result ≡ Err c.in_err-text.field-0.0 = search rules in
    rw is (no_text c.args.doc.now _ _ _ c.in_ok-db.ensures c.in_ok-coll.ensures c.in_err-text.ensures)

pub returns-then-not-is_namespace-clause-err : goal.returns-then-not-is_namespace-clause-err
returns-then-not-is_namespace-clause-err c = wrong_ns c.args.doc.now _ _ _ c.in_ok-db.ensures c.in_ok-coll.ensures c.in_ok-text.ensures (sym c.if-not-is_namespace.ensures)

pub returns-clause-ok : goal.returns-clause-ok
returns-clause-ok c = rw (c.in_ok-of.ensures, c.in_ok-of-2.ensures, c.in_ok-text-2.ensures) (right_ns c.args.doc.now _ _ _ c.in_ok-db.ensures c.in_ok-coll.ensures c.in_ok-text.ensures (sym c.if-not-is_namespace.ensures))
