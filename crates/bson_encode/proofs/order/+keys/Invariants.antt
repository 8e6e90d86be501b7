use Rattle.std.proofs.Common.{◌+◌, ◌*◌, ◌≤◌, length, max}
use denote.Param.Weighed.{most}
use Rattle.bson_value.specs.declared.value.Value.{size-Value}
use Rattle.bson_encode.proofs.Elements.{LeadFrom, fields_from, items_from}
use Rattle.bson_encode.proofs.order.+keys.Given as goal

abbrev pub decreases-value : goal.decreases-value
decreases-value l = 7 * size-Value l.a.now

abbrev pub decreases-one : goal.decreases-one
decreases-one l = 7 * size-Value l.a.now + 1

abbrev pub decreases-field : goal.decreases-field
decreases-field l = 7 * size-Value l.a.now.1 + 2

abbrev pub decreases-fields : goal.decreases-fields
decreases-fields l = 7 * most (λ e. max 0 (size-Value e.1)) l.a.now + 3

abbrev pub decreases-elements : goal.decreases-elements
decreases-elements l = 7 * most (λ v. size-Value v) l.a.now + 2

abbrev pub decreases-document : goal.decreases-document
decreases-document l = 7 * most (λ e. max 0 (size-Value e.1)) l.a.now + 4

abbrev pub decreases-code : goal.decreases-code
decreases-code l = 7 * most (λ e. max 0 (size-Value e.1)) l.s.now + 5

abbrev pub decreases-scoped : goal.decreases-scoped
decreases-scoped l = 7 * most (λ e. max 0 (size-Value e.1)) l.s.now + 6

abbrev pub decreases-array : goal.decreases-array
decreases-array l = 7 * most (λ v. size-Value v) l.a.now + 3

abbrev pub invariant-fields-loop-i : goal.invariant-fields-loop-i
invariant-fields-loop-i l = record {
  within : l.i ≤ length l.b;
  lead : LeadFrom (fields_from l.a) (fields_from l.b) l.i;
}

abbrev pub invariant-elements-loop-i : goal.invariant-elements-loop-i
invariant-elements-loop-i l = record {
  within : l.i ≤ length l.b;
  lead : LeadFrom (items_from l.a) (items_from l.b) l.i;
}
