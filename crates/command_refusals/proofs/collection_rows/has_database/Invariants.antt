use Rattle.std.proofs.Common.{◌≡◌, length}
use Rattle.coll_state.specs.Walks.{names_left}
use Rattle.command_refusals.specs.Collections.{any_in_database}
use Rattle.command_refusals.proofs.collection_rows.has_database.Given as goal

abbrev pub invariant-names : goal.invariant-names
invariant-names l = any_in_database l.db (names_left l.initial.left) ≡ any_in_database l.db (names_left l.left)

abbrev pub decreases-names : goal.decreases-names
decreases-names l = length (names_left l.left)
