-- Where a copy that is read while writes go on differs from the state before the first of them.
use Rattle.std.specs.Prelude.{◌≡◌, ◌≢◌, ◌<◌, ◌⊎◌, List, [], false, Some, None, option_map}
use Rattle.std.specs.FinMap as map
use Rattle.bson_value.specs.declared.namespace.NsName.{NsName}
use Rattle.bson_value.specs.declared.value.Value.{Value}
use Rattle.bson_value.specs.Place.{Place, look}
use Rattle.state_model.specs.Keys.{Key}
use Rattle.state_model.specs.States.{State}
use Rattle.state_model.specs.Spots.{Spot, Document, Inside, kind, stands}
use Rattle.state_model.specs.Moves.{Move}
use Rattle.state_model.specs.Covers.{any_move_covers}
use Rattle.state_model.specs.Agreement.{SameStatesBut}
use Rattle.coll_state.specs.Rows.{Row, Table, Rows, row_of, state_of}
use Rattle.copy_model.specs.Cursors.{Cursor, Copy, copied}

-- a document stands behind the position of an open cursor, in the cursor's incarnation
pub record Waits (n : NsName) (k : Key) (c : Cursor) (r : Rows) : Type 0 where
  pub open_yet : c.ended ≡ false
  pub table : Table
  pub row : Row
  pub there : map.get r.tables n ≡ Some table
  pub incarnation : table.incarnation ≡ c.incarnation
  pub stays : row_of table.rows k ≡ Some row
  pub behind : c.position < row.no

-- the place of a document
abbrev pub spot_of : NsName → Key → Place → Spot
spot_of n k q = Inside n (Document k q)

-- what the moves don't cover is as in x: in the rows, and in what was read; and a document of x that they don't cover was read, or waits for its cursor
pub record IsCovered (x : State) (ms : List Move) (w : Copy) : Type 0 where
  pub rows : SameStatesBut (any_move_covers ms) (state_of w.rows) x
  pub reads : (n : NsName) (k : Key) (d : Value) (q : Place) → copied w.reads n k ≡ Some d → any_move_covers ms (spot_of n k q) ≡ false → option_map kind (look (Some d) q) ≡ stands x (spot_of n k q)
  pub waiting : (n : NsName) (k : Key) (c : Cursor) → map.get w.cursors n ≡ Some c → stands x (spot_of n k []) ≢ None → any_move_covers ms (spot_of n k []) ≡ false → (copied w.reads n k ≢ None) ⊎ Waits n k c w.rows
