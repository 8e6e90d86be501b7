use Rattle.std.proofs.Common.{subst, arith}
use Rattle.document_lines.specs.Lines.{document_line}
use Rattle.bson_view.specs.Held.{held_document}
use Rattle.state_listing.specs.Listed.{document_lines}
use Rattle.state_listing.proofs.Fronts.{Left, left_on, left_stop}
use Rattle.state_listing.proofs.Texts.{line_first}
use Rattle.state_listing.proofs.listing.list_documents.Goals as goal

pub documents-preserved : goal.documents-preserved
documents-preserved g c =
    let before = (g.K.Sink.end c.args.sink.now).bytes in
    let now = (g.K.Sink.end c.documents.sink).bytes in
    let form = c.args.form in
    let text = document_lines form c.args.documents in
    let piece = document_line form (held_document c.in-Some.document) in
    record {
      left = left_on before now (g.K.Sink.end c.list_document.new.sink).bytes text piece (document_lines form c.next.new.self)
          (subst (Left before now text) (line_first form c.in-Some.document c.documents.left c.next.new.self c.in-Some.ensures.steps) c.documents.invariant.left) c.in-Ok.ensures.ok;
      later = omega (arith, c.documents.invariant.later, c.list_document.ensures.later);
    }

pub returns-in-Err-clause-err : goal.returns-in-Err-clause-err
returns-in-Err-clause-err g c =
    let before = (g.K.Sink.end c.args.sink.now).bytes in
    let now = (g.K.Sink.end c.documents.sink).bytes in
    let form = c.args.form in
    let text = document_lines form c.args.documents in
    let piece = document_line form (held_document c.in-Some.document) in
    left_stop before now (g.K.Sink.end c.list_document.new.sink).bytes text piece (document_lines form c.next.new.self)
    (subst (Left before now text) (line_first form c.in-Some.document c.documents.left c.next.new.self c.in-Some.ensures.steps) c.documents.invariant.left) c.in-Err.ensures.err
