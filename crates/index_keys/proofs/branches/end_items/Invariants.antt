use Rattle.std.proofs.Common.{◌≡◌, ◌++◌, map}
use Rattle.bson_view.specs.HeldWalk.{items_left}
use Rattle.index_keys.specs.Branches.{Given}
use Rattle.index_keys.specs.HeldBranches.{branches_of}
use Rattle.index_keys.proofs.branches.end_items.Given as goal

abbrev pub invariant-loop-item : goal.invariant-loop-item
invariant-loop-item l = branches_of l.out.items ++ map Given (items_left l.left) ≡ branches_of l.initial.out.items ++ map Given (items_left l.initial.left)
