use Rattle.std.proofs.Common.{suc, ◌+◌}
use Rattle.entry_reader.proofs.single.+touch.Given as goal

abbrev pub decreases-array_touch : goal.decreases-array_touch
decreases-array_touch l = suc (l.levels + l.levels)

abbrev pub decreases-touch_behind : goal.decreases-touch_behind
decreases-touch_behind l = l.levels + l.levels
