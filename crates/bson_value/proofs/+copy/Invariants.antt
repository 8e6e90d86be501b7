use Rattle.std.proofs.Common.{◌≡◌, ◌+◌, ◌*◌, max, take}
use denote.Param.Weighed.{most}
use Rattle.bson_value.specs.declared.value.Value.{size-Value}
use Rattle.bson_value.proofs.+copy.Given as goal

abbrev pub decreases-copy::copy_entry : goal.decreases-copy::copy_entry
decreases-copy::copy_entry l = 3 * size-Value l.entry.now.1 + 1

abbrev pub decreases-copy::Fields+Value::copy : goal.decreases-copy::Fields+Value::copy
decreases-copy::Fields+Value::copy l = 3 * most (λ e. max 0 (size-Value e.1)) l.self.now + 2

abbrev pub decreases-copy::copy_items : goal.decreases-copy::copy_items
decreases-copy::copy_items l = 3 * most (λ v. size-Value v) l.items.now + 2

abbrev pub decreases-value::Value::copy : goal.decreases-value::Value::copy
decreases-value::Value::copy l = 3 * size-Value l.self.now

abbrev pub invariant-copy::Fields+Value::copy-loop-entry : goal.invariant-copy::Fields+Value::copy-loop-entry
invariant-copy::Fields+Value::copy-loop-entry l = l.entries.items ≡ take l.entry-index l.entry-items

abbrev pub invariant-copy::copy_items-loop-item : goal.invariant-copy::copy_items-loop-item
invariant-copy::copy_items-loop-item l = l.list ≡ take l.item-index l.items
