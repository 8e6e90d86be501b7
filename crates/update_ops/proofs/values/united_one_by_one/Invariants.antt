use Rattle.std.proofs.Common.{◌≡◌, ◌++◌, take}
use Rattle.update_model.specs.Acts.{new_ones}
use Rattle.update_ops.proofs.values.united_one_by_one.Given as goal

abbrev pub invariant-loop-value : goal.invariant-loop-value
invariant-loop-value l = l.list ≡ l.items ++ new_ones l.items (take l.value-index l.values)
