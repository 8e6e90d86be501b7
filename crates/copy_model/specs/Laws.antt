-- The laws of copies that are read while writes go on.
use Rattle.std.specs.Prelude.{◌≡◌, List, ◌++◌, Bool}
use Rattle.bson_value.specs.declared.namespace.NsName.{NsName}
use Rattle.state_model.specs.States.{State}
use Rattle.state_model.specs.Moves.{Move}
use Rattle.state_model.specs.Replay.{replay_all}
use Rattle.state_model.specs.Agreement.{SameStates, StatesAgree}
use Rattle.state_model.specs.Windows.{Recorded}
use Rattle.state_model.specs.Cut.{cut, taken}
use Rattle.state_model.specs.Shown.{shown}
use Rattle.coll_state.specs.Rows.{Rows, AreSound, state_of}
use Rattle.copy_model.specs.Writes.{SingleWrite, change, change_rows, IsRecorded}
use Rattle.copy_model.specs.Cursors.{Copy, Read}
use Rattle.copy_model.specs.Copies.{Event, after, rows_after, AllRecorded, moves_of, begin, AllEnded, copy_of}
use Rattle.copy_model.specs.Torn.{IsCovered}
use Rattle.copy_model.specs.Blocks.{Part, base_from, AreOf, reads_in}

-- the moves of a write's entry record it
abbrev pub WritesAreRecorded : Type 0
WritesAreRecorded = (w : SingleWrite) (s : State) (ms : List Move) → IsRecorded w s ms → Recorded ms s (change w s)

-- a write on rows is the write on their state
abbrev pub RowsChangeAsStates : Type 0
RowsChangeAsStates = (w : SingleWrite) (r : Rows) → AreSound r → state_of (change_rows w r) ≡ change w (state_of r)

abbrev pub RowsStaySound : Type 0
RowsStaySound = (w : SingleWrite) (r : Rows) → AreSound r → AreSound (change_rows w r)

-- a copy that begins after the writes of first, and during which es happen
abbrev pub copied_over : Rows → List Event → List Event → Copy
copied_over before first es = after es (begin (rows_after first before))

-- each write is recorded
pub record Follow (before : Rows) (first es : List Event) : Type 0 where
  pub sound : AreSound before
  pub before_start : AllRecorded first before
  pub since : AllRecorded es (rows_after first before)

-- the first writes count among those that may be covered
abbrev pub DifferencesAreCovered : Type 0
DifferencesAreCovered = (before : Rows) (first es : List Event) → Follow before first es → IsCovered (state_of before) (moves_of first ++ moves_of es) (copied_over before first es)

-- once every cursor has ended, the copy differs from the state before the first writes at covered places alone
abbrev pub CopyAgrees : Type 0
CopyAgrees = (before : Rows) (first es : List Event) → Follow before first es → AllEnded (copied_over before first es) →
    StatesAgree (copy_of (rows_after first before) (copied_over before first es).reads) (state_of before) (moves_of first ++ moves_of es)

-- and the moves, replayed over it, make the state after the last write
abbrev pub CopyHeals : Type 0
CopyHeals = (before : Rows) (first es : List Event) → Follow before first es → AllEnded (copied_over before first es) →
    SameStates (replay_all (moves_of first ++ moves_of es) (copy_of (rows_after first before) (copied_over before first es).reads)) (state_of (copied_over before first es).rows)

-- also where a filter takes part of it
abbrev pub CutCopyHeals : Type 0
CutCopyHeals = (f : NsName → Bool) (before : Rows) (first es : List Event) → Follow before first es → AllEnded (copied_over before first es) →
    shown (replay_all (taken f (moves_of first ++ moves_of es)) (cut f (copy_of (rows_after first before) (copied_over before first es).reads))) ≡ shown (cut f (state_of (copied_over before first es).rows))

abbrev pub BlocksMakeCopy : Type 0
BlocksMakeCopy = (ts : List Part) (r : Rows) (reads : List Read) → AreOf r ts → base_from (copy_of r reads) ts ≡ copy_of r (reads_in ts reads)
