use Rattle.std.proofs.Common.{◌≡◌, take, false}
use Rattle.std.specs.List.{list_any}
use Rattle.update_model.specs.Acts.{is_index}
use Rattle.update_ops.proofs.acts.goes_through_array.Given as goal

abbrev pub invariant-loop-part : goal.invariant-loop-part
invariant-loop-part l = list_any is_index (take l.part-index l.way) ≡ false
