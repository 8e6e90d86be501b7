use Rattle.std.proofs.Common.{◌≡◌, take}
use Rattle.update_action.proofs.delta.all_copied.Given as goal

abbrev pub invariant-loop-touch : goal.invariant-loop-touch
invariant-loop-touch l = l.all ≡ take l.touch-index l.touches
