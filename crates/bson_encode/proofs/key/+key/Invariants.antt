use Rattle.std.proofs.Common.{◌≡◌, ◌+◌, ◌*◌, max, take}
use denote.Param.Weighed.{most}
use Rattle.bson_value.specs.declared.value.Value.{size-Value}
use Rattle.bson_value.specs.Spelling.{elements_of, items_of}
use Rattle.bson_encode.specs.Comparing.{behind}
use Rattle.bson_encode.proofs.key.+key.Given as goal

abbrev pub decreases-value : goal.decreases-value
decreases-value l = 6 * size-Value l.value.now

abbrev pub decreases-one : goal.decreases-one
decreases-one l = 6 * size-Value l.inner.now + 1

abbrev pub decreases-field : goal.decreases-field
decreases-field l = 6 * size-Value l.field.now.1 + 2

abbrev pub decreases-fields : goal.decreases-fields
decreases-fields l = 6 * most (λ e. max 0 (size-Value e.1)) l.fields.now + 3

abbrev pub decreases-elements : goal.decreases-elements
decreases-elements l = 6 * most (λ v. size-Value v) l.items.now + 2

abbrev pub decreases-document : goal.decreases-document
decreases-document l = 6 * most (λ e. max 0 (size-Value e.1)) l.doc.now + 4

abbrev pub decreases-scoped : goal.decreases-scoped
decreases-scoped l = 6 * most (λ e. max 0 (size-Value e.1)) l.scope.now + 5

abbrev pub decreases-array : goal.decreases-array
decreases-array l = 6 * most (λ v. size-Value v) l.items.now + 3

abbrev pub invariant-fields-loop-i : goal.invariant-fields-loop-i
invariant-fields-loop-i l = (l.now.order, l.now.rest.now) ≡ behind l.fn.so_far.order l.fn.so_far.rest.now (elements_of (take l.i l.fields))

abbrev pub invariant-elements-loop-i : goal.invariant-elements-loop-i
invariant-elements-loop-i l = (l.now.order, l.now.rest.now) ≡ behind l.fn.so_far.order l.fn.so_far.rest.now (items_of (take l.i l.items))
