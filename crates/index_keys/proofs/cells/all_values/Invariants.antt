use Rattle.std.proofs.Common.{◌≡◌, map, take}
use Rattle.index_keys.specs.HeldBranches.{branch_of, branch_value}
use Rattle.index_keys.proofs.cells.all_values.Given as goal

abbrev pub invariant-loop-branch : goal.invariant-loop-branch
invariant-loop-branch l = l.values ≡ map branch_value (map branch_of (take l.branch-index l.branches))
