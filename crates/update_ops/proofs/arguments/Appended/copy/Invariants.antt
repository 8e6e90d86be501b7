use Rattle.std.proofs.Common.{◌≡◌, take}
use Rattle.update_ops.proofs.arguments.Appended.copy.Given as goal

abbrev pub invariant-loop-item : goal.invariant-loop-item
invariant-loop-item l = l.values ≡ take l.item-index l.item-items
