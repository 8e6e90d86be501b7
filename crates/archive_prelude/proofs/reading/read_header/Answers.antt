use Rattle.std.proofs.Common.{◌≡◌, Err, true, false, rules}
use Rattle.std.specs.Prelude.{bytes_eq}
use Rattle.archive_format.specs.Shapes.{format_version}
use Rattle.archive_prelude.proofs.Shaped.{no_concurrent, no_version, no_server, no_tool, right_version, other_version}
use Rattle.archive_prelude.proofs.reading.read_header.Goals as goal

pub returns-in_err-int-clause-err : goal.returns-in_err-int-clause-err
returns-in_err-int-clause-err c =
    let is : c.from_residual.result ≡ Err c.in_err-int.field-0.0 = search rules in
    rw is (no_concurrent c.args.doc.now _ c.in_err-int.ensures)

pub returns-in_err-version-clause-err : goal.returns-in_err-version-clause-err
returns-in_err-version-clause-err c =
    let is : c.from_residual-in_err-version.result ≡ Err c.in_err-version.field-0.0 = search rules in
    rw is (no_version c.args.doc.now _ _ c.in_ok-int.ensures c.in_err-version.ensures)

pub returns-in_err-string-clause-err : goal.returns-in_err-string-clause-err
returns-in_err-string-clause-err c =
    let is : c.from_residual-in_err-string.result ≡ Err c.in_err-string.field-0.0 = search rules in
    rw is (no_server c.args.doc.now _ _ _ c.in_ok-int.ensures c.in_ok-version.ensures c.in_err-string.ensures)

pub returns-in_err-string-2-clause-err : goal.returns-in_err-string-2-clause-err
returns-in_err-string-2-clause-err c =
    let is : c.from_residual-in_err-string-2.result ≡ Err c.in_err-string-2.field-0.0 = search rules in
    rw is (no_tool c.args.doc.now _ _ _ _ c.in_ok-int.ensures c.in_ok-version.ensures c.in_ok-string.ensures c.in_err-string-2.ensures)

pub returns-then-ne-clause-err : goal.returns-then-ne-clause-err
returns-then-ne-clause-err c =
    let other : bytes_eq c.in_ok-version.version.now format_version ≡ false = search rules in
    rw c.in_ok-of.ensures (other_version c.args.doc.now _ _ _ _ c.in_ok-int.ensures c.in_ok-version.ensures c.in_ok-string.ensures c.in_ok-string-2.ensures other)

pub returns-clause-ok : goal.returns-clause-ok
returns-clause-ok c =
    let same : bytes_eq c.in_ok-version.version.now format_version ≡ true = search rules in
    right_version c.args.doc.now _ _ _ _ c.in_ok-int.ensures c.in_ok-version.ensures c.in_ok-string.ensures c.in_ok-string-2.ensures same
