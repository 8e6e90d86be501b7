use Rattle.std.proofs.Common.{sym, ap, ◌∙◌}
use Rattle.doc_path.specs.declared.touches.Touch.{Touch}
use Rattle.entry_model.specs.Edits.{Sets, Unsets, Edit}
use Rattle.entry_model.specs.Touches.{edit_of}
use Rattle.entry_writer.proofs.Steps.{at_end_is}
use Rattle.entry_writer.proofs.edits.way_of.Goals as goal

pub returns-in-Set : goal.returns-in-Set
returns-in-Set c = sym (ap (λ (t : Touch). (edit_of t).0) c.in-Set.is ∙ ap (λ (e : Edit). e.0) (at_end_is _ _ _ (λ p. Sets p c.in-Set.value c.in-Set.fresh) c.way_and_last.ensures))

pub returns-in-Unset : goal.returns-in-Unset
returns-in-Unset c = sym (ap (λ (t : Touch). (edit_of t).0) c.in-Unset.is ∙ ap (λ (e : Edit). e.0) (at_end_is _ _ _ (λ p. Unsets p) c.way_and_last-in-Unset.ensures))
