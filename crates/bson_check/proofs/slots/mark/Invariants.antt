use Rattle.std.proofs.Common.{ℕ, take, Contains}
use Rattle.bson_check.specs.Blocks.{name_at}
use Rattle.bson_check.specs.Slots.{IsMarked}
use Rattle.bson_check.proofs.slots.mark.Given as goal

abbrev pub invariant-loop-start : goal.invariant-loop-start
invariant-loop-start l = (e : ℕ) → Contains (take l.start-index l.block) e → IsMarked l.words l.factor (name_at l.body e)
