use Rattle.std.proofs.Common.{◌≡◌, take, false}
use Rattle.std.specs.List.{list_any}
use Rattle.update_model.specs.Equality.{same}
use Rattle.update_ops.proofs.values.has.Given as goal

abbrev pub invariant-loop-item : goal.invariant-loop-item
invariant-loop-item l = list_any (λ i. same i l.value) (take l.item-index l.items) ≡ false
