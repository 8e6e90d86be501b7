use Rattle.std.proofs.Common.{◌≡◌, ◌+◌, ◌*◌, max, take}
use denote.Param.Weighed.{most}
use Rattle.bson_value.specs.declared.value.Value.{size-Value}
use Rattle.extjson.specs.Trees.{items_of, fields_of}
use Rattle.extjson.proofs.writing.+tree_of.Given as goal

abbrev pub decreases-tree : goal.decreases-tree
decreases-tree l = 3 * size-Value l.value.now

abbrev pub decreases-entry : goal.decreases-entry
decreases-entry l = 3 * size-Value l.field.now.1 + 1

abbrev pub decreases-fields : goal.decreases-fields
decreases-fields l = 3 * most (λ e. max 0 (size-Value e.1)) l.list.now + 2

abbrev pub decreases-items : goal.decreases-items
decreases-items l = 3 * most (λ v. size-Value v) l.list.now + 2

abbrev pub invariant-fields-loop-field : goal.invariant-fields-loop-field
invariant-fields-loop-field l = l.entries.items ≡ fields_of (take l.field-index l.list)

abbrev pub invariant-items-loop-item : goal.invariant-items-loop-item
invariant-items-loop-item l = l.trees ≡ items_of (take l.item-index l.list)
