use Rattle.std.proofs.Common.{◌≡◌, take}
use Rattle.update_ops.proofs.keyed_values.KeyedValues.of.Given as goal

abbrev pub invariant-loop-item : goal.invariant-loop-item
invariant-loop-item l = l.all ≡ take l.item-index l.items
