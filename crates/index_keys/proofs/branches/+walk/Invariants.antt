use Rattle.std.proofs.Common.{◌≡◌, ◌+◌, ◌*◌, length, ◌++◌}
use Rattle.std.specs.List.{flat_map}
use Rattle.bson_value.specs.declared.value.Value.{out-Value}
use Rattle.bson_view.specs.HeldWalk.{items_left}
use Rattle.index_keys.specs.Branches.{branches, from_one}
use Rattle.index_keys.specs.HeldBranches.{branches_of}
use Rattle.index_keys.proofs.branches.+walk.Given as goal

abbrev pub decreases-walk : goal.decreases-walk
decreases-walk l = 3 * length l.path.now

abbrev pub decreases-walk_one : goal.decreases-walk_one
decreases-walk_one l = 3 * length l.rest.now + 1

abbrev pub decreases-walk_each : goal.decreases-walk_each
decreases-walk_each l = 3 * length l.rest.now + 2

abbrev pub invariant-walk_each-loop-item : goal.invariant-walk_each-loop-item
invariant-walk_each-loop-item l =
    branches_of l.out.items ++ flat_map (λ v. from_one (branches l.rest) l.name (out-Value v)) (items_left l.left)
    ≡ branches_of l.initial.out.items ++ flat_map (λ v. from_one (branches l.rest) l.name (out-Value v)) (items_left l.initial.left)
