use Rattle.std.proofs.Common.{◌≡◌, ◌+◌, ◌*◌, max, take}
use denote.Param.Weighed.{most}
use Rattle.json_tree.specs.declared.tree.Tree.{size-Tree}
use Rattle.extjson.specs.Plain.{wrapped_items, wrapped_fields}
use Rattle.extjson.proofs.plain.+wrap_numbers.Given as goal

abbrev pub decreases-wrapped : goal.decreases-wrapped
decreases-wrapped l = 3 * size-Tree l.tree.now

abbrev pub decreases-member : goal.decreases-member
decreases-member l = 3 * size-Tree l.entry.now.1 + 1

abbrev pub decreases-fields : goal.decreases-fields
decreases-fields l = 3 * most (λ e. max 0 (size-Tree e.1)) l.entries.now + 2

abbrev pub decreases-items : goal.decreases-items
decreases-items l = 3 * most (λ v. size-Tree v) l.trees.now + 2

abbrev pub invariant-fields-loop-entry : goal.invariant-fields-loop-entry
invariant-fields-loop-entry l = l.made.items ≡ wrapped_fields (take l.entry-index l.entries)

abbrev pub invariant-items-loop-tree : goal.invariant-items-loop-tree
invariant-items-loop-tree l = l.made ≡ wrapped_items (take l.tree-index l.trees)
