use Rattle.std.proofs.Common.{◌≡◌, Err, refl, rules}
use Rattle.archive_blocks.proofs.Typed.{no_db, no_coll, no_eof, no_crc, all_there}
use Rattle.archive_blocks.proofs.heads.of_elements.Goals as goal

pub returns-in_err-db : goal.returns-in_err-db
returns-in_err-db c = λ n fs s.
    let is : c.from_residual.result ≡ Err c.in_err-db.field-0.0 = search rules in
    rw is (no_db _ fs (c.in_err-db.ensures n fs s))

pub returns-in_err-coll : goal.returns-in_err-coll
returns-in_err-coll c = λ n fs s.
    let is : c.from_residual-in_err-coll.result ≡ Err c.in_err-coll.field-0.0 = search rules in
    rw is (no_coll _ fs _ (c.in_ok-db.ensures n fs s) (c.in_err-coll.ensures n fs s))

pub returns-in_err-eof : goal.returns-in_err-eof
returns-in_err-eof c = λ n fs s.
    let is : c.from_residual-in_err-eof.result ≡ Err c.in_err-eof.field-0.0 = search rules in
    rw is (no_eof _ fs _ (c.in_ok-db.ensures n fs s) _ (c.in_ok-coll.ensures n fs s) (c.in_err-eof.ensures n fs s))

pub returns-in_err-crc : goal.returns-in_err-crc
returns-in_err-crc c = λ n fs s.
    let is : c.from_residual-in_err-crc.result ≡ Err c.in_err-crc.field-0.0 = search rules in
    rw is (no_crc _ fs _ (c.in_ok-db.ensures n fs s) _ (c.in_ok-coll.ensures n fs s) _ (c.in_ok-eof.ensures n fs s) (c.in_err-crc.ensures n fs s))

pub returns-then-not-is_namespace : goal.returns-then-not-is_namespace
returns-then-not-is_namespace c = λ n fs s.
    let k = all_there fs _ _ _ _ (c.in_ok-db.ensures n fs s) (c.in_ok-coll.ensures n fs s) (c.in_ok-eof.ensures n fs s) (c.in_ok-crc.ensures n fs s) in
    rw (k, ← c.is_namespace.ensures, c.if-not-is_namespace.true) refl

pub returns : goal.returns
returns c = λ n fs s.
    let k = all_there fs _ _ _ _ (c.in_ok-db.ensures n fs s) (c.in_ok-coll.ensures n fs s) (c.in_ok-eof.ensures n fs s) (c.in_ok-crc.ensures n fs s) in
    rw (k, ← c.is_namespace.ensures, c.if-not-is_namespace.false) refl
