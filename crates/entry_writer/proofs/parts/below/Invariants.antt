use Rattle.std.proofs.Common.{◌≡◌, take}
use Rattle.entry_model.specs.Edits.{group}
use Rattle.entry_writer.specs.Edits.{edits_in}
use Rattle.entry_writer.proofs.parts.below.Given as goal

abbrev pub invariant-loop-edit : goal.invariant-loop-edit
invariant-loop-edit l = edits_in l.inner.items ≡ group l.part (edits_in (take l.edit-index l.edits))
