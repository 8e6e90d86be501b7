use Rattle.std.proofs.Common.{◌∙◌}
use Rattle.entry_reader.specs.Parts.{document_at, change_at}
use Rattle.entry_reader.proofs.Changes.{change_read, weaken}
use Rattle.entry_reader.proofs.entry.EntryView.change.Goals as goal

pub returns : goal.returns
returns c fs f =
    weaken c.change_at.result _ _
    ((λ k. change_at (f.head k) (f.op k) (document_at (f.o k)) (document_at (f.o2 k))) ∙ change_read fs)
    c.change_at.ensures
