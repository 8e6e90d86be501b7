use Rattle.std.proofs.Common.{◌≡◌, ◌+◌, ◌*◌, max, take}
use denote.Param.Weighed.{most}
use Rattle.json_tree.specs.declared.tree.Tree.{size-Tree}
use Rattle.json_tree.proofs.tree.+same.Given as goal

abbrev pub decreases-Tree::same : goal.decreases-Tree::same
decreases-Tree::same l = 3 * size-Tree l.self.now

abbrev pub decreases-same_entry : goal.decreases-same_entry
decreases-same_entry l = 3 * size-Tree l.a.now.1 + 1

abbrev pub decreases-same_fields : goal.decreases-same_fields
decreases-same_fields l = 3 * most (λ e. max 0 (size-Tree e.1)) l.a.now + 2

abbrev pub decreases-same_items : goal.decreases-same_items
decreases-same_items l = 3 * most (λ v. size-Tree v) l.a.now + 2

abbrev pub invariant-same_fields-loop-i : goal.invariant-same_fields-loop-i
invariant-same_fields-loop-i l = take l.i l.a ≡ take l.i l.b

abbrev pub invariant-same_items-loop-i : goal.invariant-same_items-loop-i
invariant-same_items-loop-i l = take l.i l.a ≡ take l.i l.b
