use Rattle.std.proofs.Common.{◌≡◌, take}
use Rattle.entry_model.specs.Edits.{mapped}
use Rattle.entry_model.specs.Touches.{edit_of}
use Rattle.entry_writer.specs.Edits.{edits_in}
use Rattle.entry_writer.proofs.edits.edits_of.Given as goal

abbrev pub invariant-loop-touch : goal.invariant-loop-touch
invariant-loop-touch l = edits_in l.edits.items ≡ mapped edit_of (take l.touch-index l.touches)
