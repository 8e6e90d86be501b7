use Rattle.std.proofs.Common.{◌≡◌, ◌+◌, ◌*◌, max, take}
use denote.Param.Weighed.{most}
use Rattle.json_tree.specs.declared.tree.Tree.{size-Tree}
use Rattle.json_tree.proofs.+copy.Given as goal

abbrev pub decreases-copy::copy_entry : goal.decreases-copy::copy_entry
decreases-copy::copy_entry l = 3 * size-Tree l.entry.now.1 + 1

abbrev pub decreases-copy::Members+Tree::copy : goal.decreases-copy::Members+Tree::copy
decreases-copy::Members+Tree::copy l = 3 * most (λ e. max 0 (size-Tree e.1)) l.self.now + 2

abbrev pub decreases-copy::copy_items : goal.decreases-copy::copy_items
decreases-copy::copy_items l = 3 * most (λ v. size-Tree v) l.items.now + 2

abbrev pub decreases-tree::Tree::copy : goal.decreases-tree::Tree::copy
decreases-tree::Tree::copy l = 3 * size-Tree l.self.now

abbrev pub invariant-copy::Members+Tree::copy-loop-entry : goal.invariant-copy::Members+Tree::copy-loop-entry
invariant-copy::Members+Tree::copy-loop-entry l = l.entries.items ≡ take l.entry-index l.entry-items

abbrev pub invariant-copy::copy_items-loop-item : goal.invariant-copy::copy_items-loop-item
invariant-copy::copy_items-loop-item l = l.list ≡ take l.item-index l.items
