use Rattle.std.proofs.Common.{◌≡◌, ◌+◌, ◌*◌, max, take, map}
use denote.Param.Weighed.{most}
use Rattle.bson_value.specs.declared.value.Value.{size-Value}
use Rattle.bson_value.specs.Alike.{ordered}
use Rattle.bson_value.proofs.Unordered.{AllAlike}
use Rattle.bson_value.proofs.order.+alike.Given as goal

abbrev pub decreases-alike : goal.decreases-alike
decreases-alike l = 3 * size-Value l.a.now

abbrev pub decreases-has_alike : goal.decreases-has_alike
decreases-has_alike l = 3 * size-Value l.entry.now.1 + 1

abbrev pub decreases-alike_fields : goal.decreases-alike_fields
decreases-alike_fields l = 3 * most (λ e. max 0 (size-Value e.1)) l.a.now + 2

abbrev pub decreases-alike_items : goal.decreases-alike_items
decreases-alike_items l = 3 * most (λ v. size-Value v) l.a.now + 2

abbrev pub invariant-alike_fields-loop-i : goal.invariant-alike_fields-loop-i
invariant-alike_fields-loop-i l = AllAlike (take l.i l.entries) l.b

abbrev pub invariant-alike_items-loop-i : goal.invariant-alike_items-loop-i
invariant-alike_items-loop-i l = take l.i (map ordered l.a) ≡ take l.i (map ordered l.b)
