use Rattle.std.proofs.Common.{◌≡◌, length}
use Rattle.entry_writer.specs.Order.{laid}
use Rattle.entry_writer.proofs.rising.unload.Given as goal

abbrev pub invariant-left : goal.invariant-left
invariant-left l = laid l.front.entries l.behind.items ≡ laid l.fn.front.entries l.fn.behind.items

abbrev pub decreases-left : goal.decreases-left
decreases-left l = length l.front.entries
