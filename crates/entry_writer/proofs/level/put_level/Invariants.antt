use Rattle.std.proofs.Common.{◌≡◌, ◌++◌, take}
use Rattle.bson_value.specs.Spelling.{elements_of}
use Rattle.entry_writer.specs.Edits.{edits_in}
use Rattle.entry_writer.specs.Levels.{fields_of}
use Rattle.entry_writer.proofs.level.put_level.Given as goal

abbrev pub invariant-loop-edit : goal.invariant-loop-edit
invariant-loop-edit l = l.out.items ≡ l.fn.out.items ++ elements_of (fields_of l.kind (edits_in (take l.edit-index l.edits)))
