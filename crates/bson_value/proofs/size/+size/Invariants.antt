use Rattle.std.proofs.Common.{◌≡◌, ◌+◌, ◌*◌, ◌≤◌, max, take, map, length}
use denote.Param.Weighed.{most}
use Rattle.bson_value.specs.declared.value.Value.{size-Value}
use Rattle.bson_value.specs.Levels.{largest, levels_in}
use Rattle.bson_value.specs.Spelling.{elements_of, items_of}
use Rattle.bson_value.proofs.size.+size.Given as goal

abbrev pub decreases-value : goal.decreases-value
decreases-value l = 4 * size-Value l.value.now

abbrev pub decreases-field : goal.decreases-field
decreases-field l = 4 * size-Value l.entry.now.1 + 1

abbrev pub decreases-fields : goal.decreases-fields
decreases-fields l = 4 * most (λ e. max 0 (size-Value e.1)) l.entries.now + 2

abbrev pub decreases-document : goal.decreases-document
decreases-document l = 4 * most (λ e. max 0 (size-Value e.1)) l.doc.now + 3

abbrev pub decreases-array : goal.decreases-array
decreases-array l = 4 * most (λ v. size-Value v) l.items.now + 2

abbrev pub invariant-fields-loop-i : goal.invariant-fields-loop-i
invariant-fields-loop-i l = (l.left + length (elements_of (take l.i l.entries)) ≡ l.room) × (largest (map (λ e. levels_in e.1) (take l.i l.entries)) ≤ l.depth)

abbrev pub invariant-array-loop-i : goal.invariant-array-loop-i
invariant-array-loop-i l = (l.left + (length (items_of (take l.i l.items)) + 5) ≡ l.room) × (largest (map levels_in (take l.i l.items)) + 1 ≤ l.depth)
