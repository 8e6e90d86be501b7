use Rattle.std.proofs.Common.{◌≡◌, ◌++◌, take}
use Rattle.entry_model.specs.Edits.{mapped}
use Rattle.oplog_entry.specs.PathTouches.{path_set}
use Rattle.oplog_entry.proofs.paths.push_path_sets.Given as goal

abbrev pub invariant-loop-path : goal.invariant-loop-path
invariant-loop-path l = l.touches ≡ l.initial.touches ++ mapped path_set (take l.path-index l.path-items)
