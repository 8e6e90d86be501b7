use Rattle.std.proofs.Common.{subst}
use Rattle.std.specs.Prelude.{OnOk, OnErr}
use Rattle.std.proofs.KnownBytes.{Appends-trans}
use Rattle.std.specs.Io.KnownBytes.{Appends}
use Rattle.tool_io.specs.Causes.{AppendsFront}
use Rattle.state_listing.specs.Listed.{document_lines}
use Rattle.state_listing.proofs.Fronts.{on_ok, on_err}
use Rattle.state_listing.proofs.listing.list_contents.Goals as goal
use Rattle.tool_io.proofs.Writes.{front_next, front_first}

pub returns-in-Ok-clause-ok : goal.returns-in-Ok-clause-ok
returns-in-Ok-clause-ok g c =
    let before = (g.K.Sink.end c.args.sink.now).bytes in
    let mid = (g.K.Sink.end c.list_indexes.new.sink).bytes in
    let after = (g.K.Sink.end c.list_documents.new.sink).bytes in
    let lines = subst (λ vs. OnOk c.list_documents.result (Appends mid after (document_lines c.args.form vs))) c.documents.ensures c.list_documents.ensures.ok in
    on_ok c.list_documents.result (λ w. Appends-trans before mid after _ _ c.in-Ok.ensures.ok w) lines

pub returns-in-Ok-clause-err : goal.returns-in-Ok-clause-err
returns-in-Ok-clause-err g c =
    let before = (g.K.Sink.end c.args.sink.now).bytes in
    let mid = (g.K.Sink.end c.list_indexes.new.sink).bytes in
    let after = (g.K.Sink.end c.list_documents.new.sink).bytes in
    let lines = subst (λ vs. OnErr c.list_documents.result (AppendsFront mid after (document_lines c.args.form vs))) c.documents.ensures c.list_documents.ensures.err in
    on_err c.list_documents.result (λ w. front_next before mid after _ _ c.in-Ok.ensures.ok w) lines

pub returns-in-Err-clause-err : goal.returns-in-Err-clause-err
returns-in-Err-clause-err g c = front_first (g.K.Sink.end c.args.sink.now).bytes (g.K.Sink.end c.list_indexes.new.sink).bytes _ _ c.in-Err.ensures.err
