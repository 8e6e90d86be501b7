use Rattle.std.proofs.Common.{◌≡◌, ◌+◌, ◌*◌, max, take}
use Rattle.std.specs.Prelude.{map}
use denote.Param.Weighed.{most}
use Rattle.containers.specs.Entries.{names_of}
use Rattle.json_tree.specs.declared.tree.Tree.{size-Tree}
use Rattle.extjson.specs.Values.{value_of, parts_of, items_value, fields_value}
use Rattle.extjson.proofs.Loops.{behind, items_left, fields_left}
use Rattle.extjson.proofs.reading.+value_of.Given as goal

abbrev pub decreases-value : goal.decreases-value
decreases-value l = 5 * size-Tree l.tree.now

abbrev pub decreases-document : goal.decreases-document
decreases-document l = 5 * size-Tree l.tree.now + 1

abbrev pub decreases-items : goal.decreases-items
decreases-items l = 5 * most (λ t. size-Tree t) l.trees.now + 2

abbrev pub decreases-fields : goal.decreases-fields
decreases-fields l = 5 * most (λ e. max 0 (size-Tree e.1)) l.entries.now + 2

abbrev pub decreases-scoped : goal.decreases-scoped
decreases-scoped l = 5 * most (λ e. max 0 (size-Tree e.1)) l.entries.now + 2

abbrev pub decreases-object : goal.decreases-object
decreases-object l = 5 * most (λ e. max 0 (size-Tree e.1)) l.entries.now + 3

abbrev pub invariant-items-loop-tree : goal.invariant-items-loop-tree
invariant-items-loop-tree l = items_value (map value_of l.trees) ≡ behind l.values (items_left l.trees l.tree-index)

abbrev pub invariant-fields-loop-entry : goal.invariant-fields-loop-entry
invariant-fields-loop-entry l = record {
  read : fields_value (parts_of l.entries) ≡ behind l.fields.items (fields_left l.entries l.entry-index);
  names : names_of l.fields.items ≡ names_of (take l.entry-index l.entries);
}
