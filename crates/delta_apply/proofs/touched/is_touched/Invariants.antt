use Rattle.std.proofs.Common.{◌≡◌, take, false}
use Rattle.delta_apply.specs.Touched.{is_touched}
use Rattle.delta_apply.proofs.touched.is_touched.Given as goal

abbrev pub invariant-loop-touch : goal.invariant-loop-touch
invariant-loop-touch l = is_touched (take l.touch-index l.touches) l.name ≡ false
