use Rattle.std.proofs.Common.{◌≡◌, ◌++◌, take}
use Rattle.bson_value.specs.Spelling.{elements_of}
use Rattle.entry_model.specs.Edits.{picked}
use Rattle.entry_model.specs.Written.{set_at}
use Rattle.entry_writer.specs.Edits.{edits_in}
use Rattle.entry_writer.proofs.level.put_elements_at.Given as goal

abbrev pub invariant-loop-edit : goal.invariant-loop-edit
invariant-loop-edit l = l.out.items ≡ l.fn.out.items ++ elements_of (picked (λ e. set_at l.part e.0 e.1) (edits_in (take l.edit-index l.edits)))
