use Rattle.std.proofs.Common.{string_bytes, subst}
use Rattle.std.proofs.lemmas.Result.{IfOk-weaker}
use Rattle.archive_format.specs.Written.{prelude_text}
use Rattle.archive_rows.specs.Rows.{TellsWritten, metas_named, own_header}
use Rattle.archive_rows.proofs.Writing.{told}
use Rattle.archive_rows.proofs.prelude.prelude.Goals as goal

pub returns : goal.returns
returns c = IfOk-weaker c.written.result _ _ (λ text e.
    subst (λ name. TellsWritten (prelude_text own_header (metas_named name)) (string_bytes text)) c.in_ok-metadata.ensures.word
    (told c.in_ok-answer.answer _ _ _ _ c.in_ok-sink.ensures c.in_ok-answer.ensures e)) c.written.ensures
