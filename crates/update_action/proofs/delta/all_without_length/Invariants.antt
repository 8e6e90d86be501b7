use Rattle.std.proofs.Common.{◌≡◌, map, take}
use Rattle.bson_value.specs.declared.value.Value.{Object}
use Rattle.update_action.specs.Recorded.{without_length}
use Rattle.update_action.proofs.delta.all_without_length.Given as goal

abbrev pub invariant-loop-touch : goal.invariant-loop-touch
invariant-loop-touch l = l.all ≡ map (without_length (Object l.new)) (take l.touch-index l.touches)
