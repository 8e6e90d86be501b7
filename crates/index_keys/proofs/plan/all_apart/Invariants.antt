use Rattle.std.proofs.Common.{◌≡◌, length}
use Rattle.index_keys.specs.Definition.{all_apart}
use Rattle.index_keys.proofs.plan.all_apart.Given as goal

abbrev pub invariant-loop-path : goal.invariant-loop-path
invariant-loop-path l = all_apart l.left ≡ all_apart l.paths

abbrev pub decreases-loop-path : goal.decreases-loop-path
decreases-loop-path l = length l.left
