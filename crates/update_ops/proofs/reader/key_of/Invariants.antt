use Rattle.std.proofs.Common.{◌≡◌, take}
use Rattle.update_ops.specs.Keys.{key}
use Rattle.update_ops.proofs.reader.key_of.Given as goal

abbrev pub invariant-loop-name : goal.invariant-loop-name
invariant-loop-name l = l.text ≡ key (take l.name-index l.name-items)
