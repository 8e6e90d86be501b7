use Rattle.std.proofs.Common.{◌≡◌, ◌∙◌, ap, subst}
use Rattle.std.specs.Prelude.{Some, OnOk, OnErr}
use Rattle.std.specs.Io.KnownBytes.{Appends}
use Rattle.tool_io.specs.Causes.{AppendsFront}
use Rattle.archive_format.specs.Written.{Writing, begun, block_text, end_text, with_documents}
use Rattle.archive_rows.specs.Rows.{own_namespace}
use Rattle.archive_rows.proofs.Writing.{first_piece, two_pieces}
use Rattle.archive_rows.proofs.blocks.write.Goals as goal

pub returns-in-Ok : goal.returns-in-Ok
returns-in-Ok c =
    let old = c.args.sink.now.written in
    let mid = c.block.new.sink.written in
    let new = c.end.new.sink.written in
    let writer : c.block.new.self ≡ with_documents (begun own_namespace) c.args.docs.now = c.in-Ok.ensures.sum ∙ ap (λ w. with_documents w c.args.docs.now) c.in_ok-writer.ensures in
    two_pieces c.end.result old mid new _ _
    (subst (λ (w : Writing). Appends (Some old) (Some mid) (block_text w.ns c.args.docs.now)) c.in_ok-writer.ensures c.in-Ok.ensures.ok)
    (subst (λ (w : Writing). OnOk c.end.result (Appends (Some mid) (Some new) (end_text w.ns w.sum))) writer c.end.ensures.ok)
    (subst (λ (w : Writing). OnErr c.end.result (AppendsFront (Some mid) (Some new) (end_text w.ns w.sum))) writer c.end.ensures.err)

pub returns : goal.returns
returns c =
    let old = c.args.sink.now.written in
    let new = c.block.new.sink.written in
    first_piece c.in-Err.fault old new _ _
    (subst (λ (w : Writing). AppendsFront (Some old) (Some new) (block_text w.ns c.args.docs.now)) c.in_ok-writer.ensures c.in-Err.ensures.err)
