use Rattle.std.proofs.Common.{sym, ap, ◌∙◌, append_assoc}
use Rattle.std.specs.Prelude.{codes}
use Rattle.std.specs.Fmt.{decimal}
use Rattle.archive_rows.specs.Rows.{stamp_text}
use Rattle.archive_rows.proofs.ring.stamp_text.Goals as goal

pub returns-in_ok-format-in-Some : goal.returns-in_ok-format-in-Some
returns-in_ok-format-in-Some c =
    c.in_ok-format-in-Some.ensures.ok ∙ (sym (append_assoc (decimal c.in-Some.ts.secs) (codes ":") (decimal c.in-Some.ts.inc)) ∙ ap stamp_text (sym c.in-Some.is))
