use Rattle.std.proofs.Common.{◌≡◌, ◌++◌, take}
use Rattle.bson_value.specs.Spelling.{elements_of}
use Rattle.entry_model.specs.Edits.{picked}
use Rattle.entry_writer.specs.Levels.{path_field}
use Rattle.entry_writer.proofs.paths.put_paths.Given as goal

abbrev pub invariant-loop-touch : goal.invariant-loop-touch
invariant-loop-touch l = l.out.items ≡ l.fn.out.items ++ elements_of (picked (path_field l.sets) (take l.touch-index l.touches))
