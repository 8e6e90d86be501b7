use Rattle.std.proofs.Common.{◌≡◌, ◌+◌, ◌<◌, ◌^◌, length}
use Rattle.coll_state.specs.Rows.{AreSound}
use Rattle.coll_state.specs.ChangeAll.{change_all}
use Rattle.coll_state.specs.PreparedChange.{changes_of, RoomFor}
use Rattle.coll_state.specs.Tables.{tables_in}
use Rattle.coll_state.proofs.change.apply.Given as goal

abbrev pub invariant-loop-change : goal.invariant-loop-change
invariant-loop-change l =
    (change_all (changes_of l.change-iterator.rest.items) (record { tables = tables_in l.tables; count = l.count }) ≡ change_all (changes_of l.fn.changes.items) (record { tables = tables_in l.fn.tables; count = l.fn.count }))
    × AreSound (record { tables = tables_in l.tables; count = l.count })
    × RoomFor l.change-iterator.rest.items l.tables
    × (l.count + length l.change-iterator.rest.items < 2 ^ 127)
