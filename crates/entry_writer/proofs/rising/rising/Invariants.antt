use Rattle.std.proofs.Common.{◌≡◌}
use Rattle.entry_writer.specs.Groups.{groups_in}
use Rattle.entry_writer.specs.Order.{risen, laid, IsLaid}
use Rattle.entry_writer.proofs.Order.{all_put}
use Rattle.entry_writer.proofs.rising.rising.Given as goal

abbrev pub invariant-left : goal.invariant-left
invariant-left l = (all_put (laid l.front.entries l.behind.items) (groups_in l.left.items) ≡ risen (groups_in l.fn.groups.items)) × IsLaid l.front l.behind.items (groups_in l.left.items)

abbrev pub decreases-left : goal.decreases-left
decreases-left l = l.left.len
