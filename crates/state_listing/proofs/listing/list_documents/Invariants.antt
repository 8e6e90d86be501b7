use Rattle.std.proofs.Common.{◌≤◌}
use Rattle.state_listing.specs.Listed.{document_lines}
use Rattle.state_listing.proofs.Fronts.{Left}
use Rattle.state_listing.proofs.listing.list_documents.Given as goal

abbrev pub invariant-documents : goal.invariant-documents
invariant-documents g l = record {
  left : Left (g.K.Sink.end l.fn.sink).bytes (g.K.Sink.end l.sink).bytes (document_lines l.form l.initial.left) (document_lines l.form l.left);
  later : (g.K.Sink.end l.fn.sink).faults ≤ (g.K.Sink.end l.sink).faults;
}
