use Rattle.std.proofs.Common.{sym, ap, subst, ◌∙◌, string_bytes}
use Rattle.std.specs.Prelude.{IfOk}
use Rattle.row_script.specs.Rows.{behind_blank}
use Rattle.ns_patterns.specs.Literals.{literals_of}
use Rattle.ns_patterns.specs.Matches.{Matches}
use Rattle.archive_rows.specs.Rows.{TellsTaken, TellsWhether}
use Rattle.archive_rows.proofs.patterns.takes.Goals as goal

pub returns-in-Ok : goal.returns-in-Ok
returns-in-Ok c =
    let pattern = ap literals_of (sym c.in_ok-text.ensures.word) ∙ c.in-Ok.ensures in
    subst (λ literals. IfOk c.taken.result (λ answer. TellsTaken literals (behind_blank c.args.text.now) (string_bytes answer))) (sym pattern)
    (subst (λ name. IfOk c.taken.result (λ answer. TellsWhether (Matches c.in-Ok.pattern name) (string_bytes answer))) c.in_ok-text.ensures.behind c.taken.ensures)
