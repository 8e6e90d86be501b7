use Rattle.std.proofs.Common.{◌≡◌, ◌+◌, List, length, arith, sym, ap, ◌∙◌, refl, subst}
use Rattle.bson_encode.specs.Key.{key_of}
use Rattle.coll_state.specs.declared.prepared_change.PreparedChange.{PreparedChange}
use Rattle.coll_state.specs.Rows.{Rows, AreSound}
use Rattle.coll_state.specs.ChangeAll.{changed_by, change_all}
use Rattle.coll_state.specs.PreparedChange.{changes_of, RoomFor}
use Rattle.coll_state.specs.Tables.{tables_in}
use Rattle.coll_state.proofs.Rooms.{room_now, room_later, change_sound, change_counts, nothing_left}
use Rattle.coll_state.proofs.change.apply.Goals as goal

pub loop-change-init : goal.loop-change-init
loop-change-init c =
    let items = c.into_iter-change-iterator.ensures.into_iter_gives.0 in
    rw items (refl, c.requires.sound, c.requires.room, c.requires.count)

pub apply_one-count-requires-clause-room : goal.apply_one-count-requires-clause-room
apply_one-count-requires-clause-room c =
    let rest = c.in-Some.ensures.steps.0 in
    room_now c.in-Some.change c.next.new.self.rest.items c.loop-change.tables (subst (λ (ps : List PreparedChange). RoomFor ps c.loop-change.tables) rest c.loop-change.invariant.2)

pub apply_one-count-requires-clause-sound : goal.apply_one-count-requires-clause-sound
apply_one-count-requires-clause-sound c = c.loop-change.invariant.1

pub apply_one-count-requires-clause-count : goal.apply_one-count-requires-clause-count
apply_one-count-requires-clause-count c = omega (arith, c.loop-change.invariant.3)

pub loop-change-preserved : goal.loop-change-preserved
loop-change-preserved c =
    let rest = c.in-Some.ensures.steps.0 in
    let s : Rows = record { tables = tables_in c.loop-change.tables; count = c.loop-change.count } in
    let k = key_of c.in-Some.change.id in
    let made = c.apply_one-count.ensures.rows in
    let before = ap (λ (ps : List PreparedChange). change_all (changes_of ps) s) (sym rest) ∙ c.loop-change.invariant.0 in
    let counts = change_counts c.in-Some.change.ns k c.in-Some.change.document s in
    let count : c.apply_one-count.result ≡ (changed_by c.in-Some.change.ns k c.in-Some.change.document s).count = ap (λ (z : Rows). z.count) made in
    let fewer : length c.loop-change.change-iterator.rest.items ≡ length c.next.new.self.rest.items + 1 = ap (λ (ps : List PreparedChange). length ps) rest ∙ omega arith in (
      ap (change_all (changes_of c.next.new.self.rest.items)) made ∙ before,
      subst AreSound (sym made) (change_sound c.in-Some.change.ns k c.in-Some.change.document s c.loop-change.invariant.1),
      room_later c.in-Some.change c.next.new.self.rest.items c.loop-change.tables c.apply_one-count.new.tables c.apply_one-count.ensures.keeps
          (subst (λ (ps : List PreparedChange). RoomFor ps c.loop-change.tables) rest c.loop-change.invariant.2),
      omega (arith, counts, count, fewer, c.loop-change.invariant.3),
    )

pub returns-clause-rows : goal.returns-clause-rows
returns-clause-rows c =
    let rest = nothing_left c.loop-change.change-iterator.rest.items c.loop-change.change-iterator.rest.len c.loop-change.change-iterator.rest.ok.0 c.in-None.ensures.steps.0 in
    ap (λ (ps : List PreparedChange). change_all (changes_of ps) (record { tables = tables_in c.loop-change.tables; count = c.loop-change.count })) (sym rest) ∙ c.loop-change.invariant.0

pub returns-clause-sound : goal.returns-clause-sound
returns-clause-sound c = c.loop-change.invariant.1
