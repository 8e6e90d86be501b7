use Rattle.std.proofs.Common.{◌≡◌, ◌++◌, take}
use Rattle.update_ops.proofs.touching.place_of.Given as goal

abbrev pub invariant-loop-part : goal.invariant-loop-part
invariant-loop-part l = l.place ≡ l.initial.place ++ take l.part-index l.rest
