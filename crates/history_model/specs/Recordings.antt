-- Writes and what is recorded of them, as a copy that is read meanwhile sees them.
use Rattle.std.specs.Prelude.{⊤, ℕ, ◌≡◌, List, [], ◌∷◌, ◌++◌, Result, Ok, Err}
use Rattle.schedule_model.specs.declared.line.Line.{Line}
use Rattle.schedule_model.specs.declared.line.Line.TheVariants.{Cmd, Copy}
use Rattle.schedule_model.specs.declared.refused.Refused.{Refused}
use Rattle.state_model.specs.Moves.{Move}
use Rattle.coll_state.specs.Rows.{Rows, state_of}
use Rattle.copy_model.specs.Writes.{SingleWrite, IsRecorded, change_rows}
use Rattle.copy_model.specs.Cursors.{Read, reads_of}
use Rattle.copy_model.specs.Copies.{Event, Wrote, Copied}
use Rattle.history_model.specs.Entries.{Item, Content, One, Group, OplogEntry, item_moves, content_moves}
use Rattle.history_model.specs.Entries as entries
use Rattle.history_model.specs.Stages.{Write, Single, Rename, Txn, Stage, Made, rows_by}
use Rattle.history_model.specs.Commands.{applied}
use Rattle.history_model.specs.Runs.{Run, Step, Documents, Entries, after_line}

-- the writes of a transaction, one after the other, each recorded by its item on the rows before it
abbrev pub EachRecorded : List SingleWrite → List Item → Rows → Type 0
EachRecorded [] [] r = ⊤
EachRecorded (w ∷ ws) (i ∷ is) r = IsRecorded w (state_of r) (item_moves i) × EachRecorded ws is (change_rows w r)
EachRecorded _ _ r = ⊥

-- a write is recorded by an entry of its kind
abbrev pub IsRecordedBy : Write → Content → Rows → Type 0
IsRecordedBy (Single w) (One i) r = IsRecorded w (state_of r) (item_moves i)
IsRecordedBy (Rename a b) (entries.Rename d e) r = (a ≡ d) × (b ≡ e)
IsRecordedBy (Txn ws) (Group is) r = EachRecorded ws is r
IsRecordedBy _ _ r = ⊥

-- each write by its entry, on the rows before it
abbrev pub AllMade : List Made → Rows → Type 0
AllMade [] r = ⊤
AllMade (m ∷ ms) r = IsRecordedBy m.write m.content r × AllMade ms (rows_by m.write r)

-- the rows after writes
abbrev pub rows_of_made : List Made → Rows → Rows
rows_of_made [] r = r
rows_of_made (m ∷ ms) r = rows_of_made ms (rows_by m.write r)

-- the moves of all entries, in order
abbrev pub moves_made : List Made → List Move
moves_made [] = []
moves_made (m ∷ ms) = content_moves m.content ++ moves_made ms

abbrev pub moves_recorded : List OplogEntry → List Move
moves_recorded [] = []
moves_recorded (e ∷ es) = content_moves e.content ++ moves_recorded es

-- ---- renames

-- of each write that was made
abbrev pub EachMade : (Made → Type 0) → List Made → Type 0
EachMade P [] = ⊤
EachMade P (m ∷ ms) = P m × EachMade P ms

-- where the write is a rename
abbrev pub OfRename : Write → Type 0 → Type 0
OfRename (Rename a b) P = P
OfRename (Single w) P = ⊤
OfRename (Txn ws) P = ⊤

abbrev pub NoRenames : List Made → Type 0
NoRenames ms = EachMade (λ (m : Made). OfRename m.write ⊥) ms

-- ---- writes as events: single ones, each with what is recorded of it; a rename is none

abbrev pub events_of_singles : List SingleWrite → List Item → List Event
events_of_singles (w ∷ ws) (i ∷ is) = Wrote w (item_moves i) ∷ events_of_singles ws is
events_of_singles _ _ = []

abbrev pub events_of_write : Write → Content → List Event
events_of_write (Single w) (One i) = Wrote w (item_moves i) ∷ []
events_of_write (Txn ws) (Group is) = events_of_singles ws is
events_of_write _ _ = []

abbrev pub events_of_made : List Made → List Event
events_of_made [] = []
events_of_made (m ∷ ms) = events_of_write m.write m.content ++ events_of_made ms

-- what a line makes
abbrev pub made_of_answer : Result (Stage × List Made) Refused → List Made
made_of_answer (Ok x) = x.1
made_of_answer (Err e) = []

abbrev pub made_by_line : Line → Run → List Made
made_by_line (Cmd k) r = made_of_answer (applied k r.stage)
made_by_line _ r = []

abbrev pub made_by : List (ℕ × Line) → Run → List Made
made_by [] r = []
made_by (l ∷ ls) r = made_by_line l.1 r ++ made_by ls (after_line l r)

-- lines as events
abbrev pub events_of_line : Line → Run → List Event
events_of_line (Cmd k) r = events_of_made (made_by_line (Cmd k) r)
events_of_line (Copy n k) r = Copied n k ∷ []
events_of_line _ r = []

abbrev pub events_of_lines : List (ℕ × Line) → Run → List Event
events_of_lines [] r = []
events_of_lines (l ∷ ls) r = events_of_line l.1 r ++ events_of_lines ls (after_line l r)

-- what the steps read, the newest first
abbrev pub reads_in : List Step → List Read → List Read
reads_in [] reads = reads
reads_in (Documents n rs b ∷ ss) reads = reads_in ss (reads_of n rs ++ reads)
reads_in (Entries es b ∷ ss) reads = reads_in ss reads
