use Rattle.std.proofs.Common.{◌≡◌, ◌++◌, take}
use Rattle.update_model.specs.Acts.{new_ones}
use Rattle.update_ops.proofs.keyed_values.KeyedValues.add_new.Given as goal

abbrev pub invariant-loop-value : goal.invariant-loop-value
invariant-loop-value l = l.self ≡ l.fn.self ++ new_ones l.fn.self (take l.value-index l.values)
