use Rattle.std.proofs.Common.{◌≡◌, ◌+◌, ◌*◌, ◌++◌, max, take, drop, map}
use denote.Param.Weighed.{most}
use Rattle.bson_value.specs.declared.value.Value.{size-Value}
use Rattle.bson_value.specs.Alike.{ordered, ordered_fields}
use Rattle.bson_value.proofs.sort.+sort.Given as goal

abbrev pub decreases-value : goal.decreases-value
decreases-value l = 3 * size-Value l.value

abbrev pub decreases-fields : goal.decreases-fields
decreases-fields l = 3 * most (λ e. max 0 (size-Value e.1)) l.entries.items + 1

abbrev pub decreases-Fields+Value::into_ordered : goal.decreases-Fields+Value::into_ordered
decreases-Fields+Value::into_ordered l = 3 * most (λ e. max 0 (size-Value e.1)) l.self + 2

abbrev pub decreases-items : goal.decreases-items
decreases-items l = 3 * most (λ v. size-Value v) l.items.items + 1

abbrev pub invariant-fields-loop-i : goal.invariant-fields-loop-i
invariant-fields-loop-i l = l.entries.items ≡ ordered_fields (take l.i l.fn.entries.items) ++ drop l.i l.fn.entries.items

abbrev pub invariant-items-loop-i : goal.invariant-items-loop-i
invariant-items-loop-i l = l.items.items ≡ map ordered (take l.i l.fn.items.items) ++ drop l.i l.fn.items.items
