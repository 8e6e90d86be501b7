-- Writes, the capped oplog, and what stands between two commands.
use Rattle.std.specs.Prelude.{ℕ, zero, suc, ◌+◌, ◌-◌, List, [], ◌∷◌, ◌++◌, Bool, true, false, ◌&&◌, ◌||◌, ◌==◌, not, nat_lt, nat_le, if◌then◌else◌, Option, Some, None}
use Rattle.std.specs.FinMap as map
use Rattle.bson_value.specs.declared.namespace.NsName.{NsName}
use Rattle.bson_value.specs.declared.value.Ts.{Ts}
use Rattle.doc_path.specs.declared.parts.Form.{Form}
use Rattle.state_model.specs.States.{State, Collection}
use Rattle.coll_state.specs.Rows.{Rows}
use Rattle.coll_state.specs.Changes.{rename}
use Rattle.copy_model.specs.Writes.{SingleWrite, change, change_rows}
use Rattle.history_model.specs.Entries.{Content, OplogEntry, entry_bytes, size_of}

-- a write: a single one, a rename, or those of a transaction in order
pub data Write : Type 0 where
  Single : SingleWrite → Write
  Rename : NsName → NsName → Write
  Txn : List SingleWrite → Write

-- what a write makes of a state: a renamed collection is moved whole
abbrev pub change_all : List SingleWrite → State → State
change_all [] s = s
change_all (w ∷ ws) s = change_all ws (change w s)

abbrev pub moved : NsName → NsName → Option Collection → State → State
moved a b None s = s
moved a b (Some c) s = map.insert (map.remove s a) b c

abbrev pub changed_by : Write → State → State
changed_by (Single w) s = change w s
changed_by (Rename a b) s = moved a b (map.get s a) s
changed_by (Txn ws) s = change_all ws s

-- and of rows
abbrev pub rows_all : List SingleWrite → Rows → Rows
rows_all [] r = r
rows_all (w ∷ ws) r = rows_all ws (change_rows w r)

abbrev pub rows_by : Write → Rows → Rows
rows_by (Single w) r = change_rows w r
rows_by (Rename a b) r = rename a b r
rows_by (Txn ws) r = rows_all ws r

-- ---- timestamps

abbrev pub earlier : Ts → Ts → Bool
earlier a b = nat_lt a.secs b.secs || ((a.secs == b.secs) && nat_lt a.inc b.inc)

abbrev pub not_later : Ts → Ts → Bool
not_later a b = not (earlier b a)

abbrev pub first_ts : Ts
first_ts = record { secs = 1; inc = 1 }

-- ---- the capped oplog

-- the most entries, and the most bytes of more than one where there is such a bound
pub record Caps : Type 0 where
  pub entries : ℕ
  pub bytes : Option ℕ

-- the newest entry first
abbrev pub Oplog : Type 0
Oplog = List OplogEntry

abbrev pub within : Option ℕ → ℕ → Bool
within None n = true
within (Some b) n = nat_le n b

abbrev pub kept_if : Bool → OplogEntry → Oplog → Oplog
kept_if true e es = e ∷ es
kept_if false e es = []

-- of those behind the newest the front that has room for so many entries, and for the bytes that it makes with the newer ones
abbrev pub kept_behind : ℕ → Option ℕ → ℕ → Oplog → Oplog
kept_behind zero b sum es = []
kept_behind (suc n) b sum [] = []
kept_behind (suc n) b sum (e ∷ es) = kept_if (within b (sum + size_of e)) e (kept_behind n b (sum + size_of e) es)

-- what isn't gone: the newest entry, and those that the caps allow behind it
abbrev pub kept : Caps → Oplog → Oplog
kept c [] = []
kept c (e ∷ es) = e ∷ kept_behind (c.entries - 1) c.bytes (size_of e) es

-- the entries as a ring has them: the oldest first, each with its bytes
abbrev pub ring_entry : OplogEntry → Ts × List ℕ
ring_entry e = (e.ts, entry_bytes e)

abbrev pub turned : Oplog → List (Ts × List ℕ)
turned [] = []
turned (e ∷ es) = turned es ++ (ring_entry e ∷ [])

-- ---- between two commands: the rows, the clock, the form of later updates, the timestamps of the newest entry and of the newest rename, and the oplog

pub record Stage : Type 0 where
  pub rows : Rows
  pub clock : ℕ
  pub form : Form
  pub newest : Ts
  pub renamed : Option Ts
  pub oplog : Oplog
  pub caps : Caps

-- a write with its entry
pub record Made : Type 0 where
  pub ts : Ts
  pub write : Write
  pub content : Content

abbrev pub entry_of : Made → OplogEntry
entry_of m = record { ts = m.ts; content = m.content }

-- the clock's second where that is later, else the next increment
abbrev pub next_ts : Stage → Ts
next_ts st = if nat_lt st.newest.secs st.clock then record { secs = st.clock; inc = 1 } else record { secs = st.newest.secs; inc = suc st.newest.inc }

abbrev pub renamed_by : Write → Ts → Option Ts → Option Ts
renamed_by (Single w) ts o = o
renamed_by (Rename a b) ts o = Some ts
renamed_by (Txn ws) ts o = o

-- a write and what is recorded of it, before they have a timestamp
abbrev pub Effect : Type 0
Effect = Write × Content

abbrev pub made_of : Effect → Stage → Made
made_of d st = record { ts = next_ts st; write = d.0; content = d.1 }

abbrev pub stage_by : Effect → Stage → Stage
stage_by d st =
    record {
      rows = rows_by d.0 st.rows;
      clock = st.clock;
      form = st.form;
      newest = next_ts st;
      renamed = renamed_by d.0 (next_ts st) st.renamed;
      oplog = kept st.caps (entry_of (made_of d st) ∷ st.oplog);
      caps = st.caps;
    }

abbrev pub stage_after : List Effect → Stage → Stage
stage_after [] st = st
stage_after (d ∷ ds) st = stage_after ds (stage_by d st)

abbrev pub made_in : List Effect → Stage → List Made
made_in [] st = []
made_in (d ∷ ds) st = made_of d st ∷ made_in ds (stage_by d st)
