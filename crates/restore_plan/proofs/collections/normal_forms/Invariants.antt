use Rattle.std.proofs.Common.{◌≡◌, ◌++◌, length}
use Rattle.restore_plan.specs.Base.{normal_forms}
use Rattle.restore_plan.proofs.collections.normal_forms.Given as goal

abbrev pub invariant-loop-def : goal.invariant-loop-def
invariant-loop-def l = l.forms.items ++ normal_forms l.left ≡ normal_forms l.defs

abbrev pub decreases-loop-def : goal.decreases-loop-def
decreases-loop-def l = length l.left
