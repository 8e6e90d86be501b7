use Rattle.std.proofs.Common.{◌≡◌, take}
use Rattle.coll_state.specs.PreparedChange.{RoomFor}
use Rattle.coll_state.specs.Tables.{tables_in}
use Rattle.coll_state.proofs.change.reserve.Given as goal

abbrev pub invariant-loop-change : goal.invariant-loop-change
invariant-loop-change l = (tables_in l.tables ≡ tables_in l.fn.tables) × RoomFor (take l.change-index l.changes) l.tables
