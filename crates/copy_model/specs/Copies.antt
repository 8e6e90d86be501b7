-- A copy that is read while writes go on.
use Rattle.std.specs.Prelude.{⊤, ℕ, ◌≡◌, List, [], ◌∷◌, ◌++◌, true, false, Some, if◌then◌else◌}
use Rattle.std.specs.FinMap as map
use Rattle.bson_value.specs.declared.namespace.NsName.{NsName}
use Rattle.bson_value.specs.declared.value.Value.{Value}
use Rattle.state_model.specs.Keys.{Key, same_ns}
use Rattle.state_model.specs.States.{State, Collection}
use Rattle.state_model.specs.Moves.{Move}
use Rattle.coll_state.specs.Rows.{Table, Rows, state_of}
use Rattle.copy_model.specs.Writes.{SingleWrite, change_rows, IsRecorded}
use Rattle.copy_model.specs.Cursors.{Cursor, Read, Copy, copy_step}

-- a write, with the moves that are recorded of it; a step of a cursor
pub data Event : Type 0 where
  Wrote : SingleWrite → List Move → Event
  Copied : NsName → ℕ → Event

abbrev pub happens : Event → Copy → Copy
happens (Wrote x ms) w = record w { rows = change_rows x w.rows }
happens (Copied n k) w = copy_step n k w

abbrev pub after : List Event → Copy → Copy
after [] w = w
after (e ∷ es) w = after es (happens e w)

abbrev pub rows_after : List Event → Rows → Rows
rows_after [] r = r
rows_after (Wrote x ms ∷ es) r = rows_after es (change_rows x r)
rows_after (Copied n k ∷ es) r = rows_after es r

-- the moves of each write record it on the state before it
abbrev pub AllRecorded : List Event → Rows → Type 0
AllRecorded [] r = ⊤
AllRecorded (Wrote x ms ∷ es) r = IsRecorded x (state_of r) ms × AllRecorded es (change_rows x r)
AllRecorded (Copied n k ∷ es) r = AllRecorded es r

-- what the oplog has of them
abbrev pub moves_of : List Event → List Move
moves_of [] = []
moves_of (Wrote x ms ∷ es) = ms ++ moves_of es
moves_of (Copied n k ∷ es) = moves_of es

-- a cursor on each collection that is there, before its first row
abbrev pub begun : Table → Cursor
begun t = record { incarnation = t.incarnation; position = 0; ended = false }

abbrev pub cursors_of : List (NsName × Table) → List (NsName × Cursor)
cursors_of [] = []
cursors_of (e ∷ es) = (e.0, begun e.1) ∷ cursors_of es

abbrev pub begin : Rows → Copy
begin r = record { rows = r; cursors = map.from_entries (cursors_of (map.entries r.tables)); reads = [] }

abbrev pub AllEnded : Copy → Type 0
AllEnded w = (n : NsName) (c : Cursor) → map.get w.cursors n ≡ Some c → c.ended ≡ true

-- what is copied: the options and definitions of the start, and the documents as they were read, of two under one key the later
abbrev pub copy_documents : NsName → List Read → List (Key × Value)
copy_documents n [] = []
copy_documents n (r ∷ rs) = if same_ns n r.ns then (r.key, r.document) ∷ copy_documents n rs else copy_documents n rs

abbrev pub copy_collection : List Read → NsName → Table → Collection
copy_collection reads n t = record { options = t.options; indexes = t.indexes; documents = map.from_entries (copy_documents n reads) }

abbrev pub copy_collections : List Read → List (NsName × Table) → List (NsName × Collection)
copy_collections reads [] = []
copy_collections reads (e ∷ es) = (e.0, copy_collection reads e.0 e.1) ∷ copy_collections reads es

abbrev pub copy_of : Rows → List Read → State
copy_of r reads = map.from_entries (copy_collections reads (map.entries r.tables))
