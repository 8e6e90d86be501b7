use Rattle.std.proofs.Common.{◌≡◌, ◌++◌, take}
use Rattle.index_keys.specs.Faults.{behind_dots}
use Rattle.index_keys.proofs.parallel.put_names.Given as goal

abbrev pub invariant-loop-name : goal.invariant-loop-name
invariant-loop-name l = l.text ≡ l.fn.text ++ behind_dots (take l.name-index l.names)
