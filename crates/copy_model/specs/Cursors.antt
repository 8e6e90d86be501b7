-- Cursors over collections in record order, and what a copy reads through them.
use Rattle.std.specs.Prelude.{ℕ, ◌==◌, List, [], ◌∷◌, ◌++◌, length, Bool, true, nat_lt, ◌&&◌, Option, Some, None, if◌then◌else◌}
use Rattle.std.specs.FinMap as map
use Rattle.bson_value.specs.declared.namespace.NsName.{NsName}
use Rattle.bson_value.specs.declared.value.Value.{Value, Object}
use Rattle.bson_value.specs.NamespaceOrder.{namespace_cmp}
use Rattle.state_model.specs.Keys.{Key, same_key, same_ns}
use Rattle.coll_state.specs.Rows.{Row, Table, Rows, scan, last_no}

-- the incarnation that it was begun on, the number of the last row that it read, and whether it ended
pub record Cursor : Type 0 where
  pub incarnation : ℕ
  pub position : ℕ
  pub ended : Bool

-- a document that was read
pub record Read : Type 0 where
  pub ns : NsName
  pub key : Key
  pub document : Value

-- the rows as they stand, a cursor for each collection of the start, and what was read, the newest first
pub record Copy : Type 0 where
  pub rows : Rows
  pub cursors : map.FinMap namespace_cmp Cursor
  pub reads : List Read

abbrev pub reads_of : NsName → List Row → List Read
reads_of n [] = []
reads_of n (r ∷ rs) = record { ns = n; key = r.key; document = Object r.document } ∷ reads_of n rs

-- the last document that was read under a key
abbrev pub copied : List Read → NsName → Key → Option Value
copied [] n k = None
copied (r ∷ rs) n k = if same_ns n r.ns && same_key k r.key then Some r.document else copied rs n k

-- the cursor behind what a step of n read: it ended where fewer were left
abbrev pub moved_on : ℕ → Cursor → List Row → Cursor
moved_on n c out = record { incarnation = c.incarnation; position = last_no c.position out; ended = nat_lt (length out) n }

abbrev pub ended_now : Cursor → Cursor
ended_now c = record { incarnation = c.incarnation; position = c.position; ended = true }

-- a cursor ends, and nothing is read
abbrev pub close : NsName → Cursor → Copy → Copy
close n c w = record w { cursors = map.insert w.cursors n (ended_now c) }

abbrev pub read_rows : NsName → ℕ → Cursor → List Row → Copy → Copy
read_rows n k c out w =
    record {
      rows = w.rows;
      cursors = map.insert w.cursors n (moved_on k c out);
      reads = reads_of n out ++ w.reads;
    }

-- the first k rows behind the position, where the collection is still the incarnation of the start
abbrev pub step_on : NsName → ℕ → Cursor → Option Table → Copy → Copy
step_on n k c None w = close n c w
step_on n k c (Some t) w = if t.incarnation == c.incarnation then read_rows n k c (scan c.position k t.rows) w else close n c w

abbrev pub step_open : NsName → ℕ → Option Cursor → Copy → Copy
step_open n k None w = w
step_open n k (Some c) w = if c.ended then w else step_on n k c (map.get w.rows.tables n) w

-- a step of k documents; one on an ended cursor, or where there is none, does nothing
abbrev pub copy_step : NsName → ℕ → Copy → Copy
copy_step n k w = step_open n k (map.get w.cursors n) w
