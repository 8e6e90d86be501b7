use Rattle.std.proofs.Common.{◌≡◌, take}
use Rattle.update_model.specs.Acts.{others}
use Rattle.update_ops.proofs.values.without.Given as goal

abbrev pub invariant-loop-item : goal.invariant-loop-item
invariant-loop-item l = l.list ≡ others l.value (take l.item-index l.items)
