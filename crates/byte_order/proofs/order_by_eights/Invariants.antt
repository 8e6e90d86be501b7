use Rattle.std.proofs.Common.{◌-◌, ◌≡◌, ◌≤◌, take}
use Rattle.byte_order.proofs.order_by_eights.Given as goal

abbrev pub invariant-words : goal.invariant-words
invariant-words l = (l.at ≤ l.both) × (take l.at l.a ≡ take l.at l.b)

abbrev pub decreases-words : goal.decreases-words
decreases-words l = l.both - l.at
