use Rattle.std.proofs.Common.{◌≡◌, ℕ, List, length, take, arith, sym, ap, ◌∙◌, subst, true}
use Rattle.std.specs.FinMap as map
use Rattle.coll_state.specs.declared.prepared_change.PreparedChange.{PreparedChange}
use Rattle.coll_state.specs.Changes.{Tables}
use Rattle.coll_state.specs.PreparedChange.{RoomFor}
use Rattle.coll_state.specs.Tables.{tables_in}
use Rattle.coll_state.proofs.Rooms.{room_next, there_at, take_whole, room_nothing}
use Rattle.coll_state.proofs.change.reserve.Goals as goal

pub loop-change-init : goal.loop-change-init
loop-change-init c = (c.give_up_room.ensures, room_nothing c.args.changes.now c.give_up_room.new.tables)

pub reserve_one-requires : goal.reserve_one-requires
reserve_one-requires c =
    subst (λ (ts : Tables). map.contains_key ts c.change-item.result.ns ≡ true) (sym c.loop-change.invariant.0)
    (there_at c.loop-change.change-index c.args.changes.now c.change-item.result (tables_in c.args.tables.now) c.loop-change-test.true c.change-item.is c.requires)

pub returns-in_err-reserve_one-clause-tables : goal.returns-in_err-reserve_one-clause-tables
returns-in_err-reserve_one-clause-tables c = c.reserve_one.ensures.tables ∙ c.loop-change.invariant.0

pub loop-change-preserved : goal.loop-change-preserved
loop-change-preserved c = (
  c.reserve_one.ensures.tables ∙ c.loop-change.invariant.0,
  room_next c.loop-change.change-index c.args.changes.now c.change-item.result c.loop-change.tables c.reserve_one.new.tables c.loop-change-test.true c.change-item.is c.loop-change.invariant.1 c.in_ok-reserve_one.ensures.ok,
)

pub returns-clause-tables : goal.returns-clause-tables
returns-clause-tables c = c.loop-change.invariant.0

pub returns-clause-ok : goal.returns-clause-ok
returns-clause-ok c =
    let end : c.loop-change.change-index ≡ length c.args.changes.now = omega (arith, c.loop-change-test.false, c.loop-change.auto.change-index-end) in
    subst (λ (ps : List PreparedChange). RoomFor ps c.loop-change.tables) (ap (λ (n : ℕ). take n c.args.changes.now) end ∙ take_whole c.args.changes.now) c.loop-change.invariant.1
