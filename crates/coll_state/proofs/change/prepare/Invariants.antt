use Rattle.std.proofs.Common.{◌≡◌, ◌++◌}
use Rattle.coll_state.specs.ChangeAll.{HaveIds}
use Rattle.coll_state.specs.PreparedChange.{changes_of}
use Rattle.coll_state.proofs.change.prepare.Given as goal

abbrev pub invariant-loop-change : goal.invariant-loop-change
invariant-loop-change l = (changes_of l.prepared.items ++ l.change-iterator.rest.items ≡ l.fn.changes) × HaveIds l.change-iterator.rest.items
