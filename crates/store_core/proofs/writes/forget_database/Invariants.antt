use Rattle.std.proofs.Common.{length}
use Rattle.coll_state.specs.Walks.{names_left}
use Rattle.kept_indexes.specs.Kept.{AreKept}
use Rattle.store_core.specs.Databases.{AreAmong}
use Rattle.store_core.proofs.writes.forget_database.Given as goal

abbrev pub invariant-names : goal.invariant-names
invariant-names l = AreKept l.indexes l.state × AreAmong l.db l.indexes (names_left l.left)

abbrev pub decreases-names : goal.decreases-names
decreases-names l = length (names_left l.left)
