use Rattle.entry_reader.specs.FieldDeltas.{IsFieldDelta}
use Rattle.entry_reader.specs.Parts.{document_at}
use Rattle.entry_reader.proofs.FieldDeltas.{entry_is, if_field}
use Rattle.entry_reader.proofs.entry.EntryView.field_delta.Goals as goal

pub returns : goal.returns
returns c fs f =
    if_field c.delta_at.result _ (λ d. IsFieldDelta d fs)
    (λ d i. entry_is d fs _ _ _ f.op (λ k. document_at (f.o k)) (λ k. document_at (f.o2 k)) i)
    c.delta_at.ensures
