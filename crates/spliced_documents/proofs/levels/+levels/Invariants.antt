use Rattle.std.proofs.Common.{◌+◌, ◌*◌, ◌≤◌, map, take}
use denote.Param.Weighed.{most}
use Rattle.bson_value.specs.declared.value.Value.{size-Value}
use Rattle.bson_value.specs.Levels.{largest, levels_in}
use Rattle.spliced_documents.proofs.levels.+levels.Given as goal

abbrev pub decreases-is_shallow : goal.decreases-is_shallow
decreases-is_shallow l = 2 * size-Value l.value.now

abbrev pub decreases-are_shallow : goal.decreases-are_shallow
decreases-are_shallow l = 2 * most (λ v. size-Value v) l.items.now + 1

abbrev pub invariant-are_shallow-loop-i : goal.invariant-are_shallow-loop-i
invariant-are_shallow-loop-i l = largest (map levels_in (take l.i l.items)) + 1 ≤ l.levels
