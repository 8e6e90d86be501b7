-- The laws of histories and of dumps that are made of them.
use Rattle.std.specs.Prelude.{ℕ, ◌≡◌, ◌<◌, List, [], ◌∷◌, ◌++◌, Bool, true, false, filter, ⊤, Option, Some, None, Ok}
use Rattle.bson_value.specs.declared.namespace.NsName.{NsName}
use Rattle.bson_value.specs.declared.value.Ts.{Ts}
use Rattle.state_model.specs.Moves.{Move}
use Rattle.state_model.specs.Replay.{replay_all}
use Rattle.state_model.specs.Agreement.{SameStates}
use Rattle.state_model.specs.Cut.{cut, taken}
use Rattle.state_model.specs.Shown.{shown}
use Rattle.coll_state.specs.Rows.{Rows, state_of}
use Rattle.coll_state.specs.Changes.{no_rows}
use Rattle.capped_oplog.specs.Ring.{IsLongest}
use Rattle.schedule_model.specs.declared.line.Line.{Line}
use Rattle.schedule_model.specs.declared.line.Line.TheVariants.{Mark, Tail}
use Rattle.copy_model.specs.Cursors.{Copy}
use Rattle.copy_model.specs.Copies.{after, rows_after, AllRecorded, copy_of}
use Rattle.history_model.specs.Entries.{OplogEntry}
use Rattle.history_model.specs.Stages.{Write, Caps, Made, Oplog, first_ts, earlier, not_later, kept, turned}
use Rattle.history_model.specs.Runs.{Schedule, Run, Done, DumpState, Entries, run, started, on_line, after_lines, all_entries, window, entries_from, is_gone}
use Rattle.history_model.specs.Histories.{history_of, history, state, before, source, is_before, moments, at, outcome, reads, sent_in}
use Rattle.history_model.specs.Recordings.{AllMade, NoRenames, made_by, events_of_lines, moves_made, moves_recorded, reads_in}
use Rattle.history_model.specs.Indexes.{IndexesHold}
use Rattle.history_model.specs.WellFormed.{AreWellFormedLines}
use Rattle.history_model.specs.Invariants.{RisesTo, NoRename, RunOk, Has, Mirrors, CopiedOut}

-- ---- of every schedule of well-formed documents

abbrev pub HistoryIsRecorded : Type 0
HistoryIsRecorded = (s : Schedule) → AreWellFormedLines s.lines → AllMade (run s).made no_rows

abbrev pub TimestampsRise : Type 0
TimestampsRise = (s : Schedule) → AreWellFormedLines s.lines → RisesTo first_ts (run s).made (run s).stage.newest

abbrev pub StateIsHistory : Type 0
StateIsHistory = (s : Schedule) → AreWellFormedLines s.lines → state_of (run s).stage.rows ≡ state (history s)

abbrev pub OplogIsKept : Type 0
OplogIsKept = (s : Schedule) → AreWellFormedLines s.lines → (run s).stage.oplog ≡ kept s.caps (all_entries (run s))

-- of all entries those that the caps allow are the longest end that a ring of these caps has room for
abbrev pub OplogIsRing : Type 0
OplogIsRing = (c : Caps) (es : Oplog) → 0 < c.entries → IsLongest c.entries c.bytes (turned es) (turned (kept c es))

-- the indexes of the rows that stand hold
abbrev pub IndexesAreKept : Type 0
IndexesAreKept = (s : Schedule) → IndexesHold (run s).stage.rows

abbrev pub WindowHasNoRename : Type 0
WindowHasNoRename = (s : Schedule) (start last : Ts) → AreWellFormedLines s.lines → (moments s).start ≡ Some start → (moments s).end_ts ≡ Some last → NoRename start last (run s).made

-- what is made of the commands up to a limit makes the state before it
abbrev pub SourceIsBefore : Type 0
SourceIsBefore = (l : Option Ts) (s : Schedule) → state (history_of (source l s).made) ≡ before s l

-- ---- of every run of lines

-- what holds of a run holds after more lines
abbrev pub RunsStayOk : Type 0
RunsStayOk = (c : Caps) (ls : List (ℕ × Line)) (r : Run) → AreWellFormedLines ls → RunOk c r → RunOk c (after_lines ls r)

-- while the entry at Start isn't gone, no entry of the window is
abbrev pub WindowStands : Type 0
WindowStands = (c : Caps) (r : Run) (start last : Ts) (k : OplogEntry) → RunOk c r → is_gone start r.stage.oplog ≡ false → Has (window start last (entries_from r)) k → Has r.stage.oplog k

-- a tail step sends entries that all stand in the oplog
pub record SendsKept (r s : Run) : Type 0 where
  pub entries : List OplogEntry
  pub last : Bool
  pub sent : s.steps ≡ r.steps ++ (Entries entries last ∷ [])
  pub kept : (k : OplogEntry) → Has entries k → Has r.stage.oplog k

abbrev pub TailsSendKept : Type 0
TailsSendKept = (c : Caps) (r s : Run) (n : ℕ) → RunOk c r → on_line (Tail n) r ≡ Ok s → s.outcome ≡ Done → SendsKept r s

-- lines without a rename are events, each write recorded, and lead to the rows that stand after them
abbrev pub LinesAreRecorded : Type 0
LinesAreRecorded = (c : Caps) (ls : List (ℕ × Line)) (r : Run) → AreWellFormedLines ls → RunOk c r → NoRenames (made_by ls r) → AllRecorded (events_of_lines ls r) r.stage.rows

abbrev pub LinesLead : Type 0
LinesLead = (c : Caps) (ls : List (ℕ × Line)) (r : Run) → AreWellFormedLines ls → RunOk c r → NoRenames (made_by ls r) → rows_after (events_of_lines ls r) r.stage.rows ≡ (after_lines ls r).stage.rows

-- the steps of a dump read what the copy reads, as long as it doesn't fail
abbrev pub StepsReadCopy : Type 0
StepsReadCopy = (c : Caps) (ls : List (ℕ × Line)) (r : Run) (w : Copy) → AreWellFormedLines ls → RunOk c r → NoRenames (made_by ls r) → Mirrors r w → (after_lines ls r).outcome ≡ Done → Mirrors (after_lines ls r) (after (events_of_lines ls r) w)

-- a dump starts on r, whose last writes are those of first, and lines follow that make no rename and after which every cursor has ended. The entries of first and of all later writes, replayed over what was read, make the state
abbrev pub LinesHeal : Type 0
LinesHeal = (c : Caps) (r : Run) (earlier first : List Made) (ls : List (ℕ × Line)) → AreWellFormedLines ls → RunOk c r → r.steps ≡ [] → r.made ≡ earlier ++ first →
    NoRenames first → NoRenames (made_by ls (started r)) → (after_lines ls (started r)).outcome ≡ Done → CopiedOut (after_lines ls (started r)) →
    SameStates (replay_all (moves_made (first ++ made_by ls (started r))) (copy_of r.stage.rows (reads_in (after_lines ls (started r)).steps []))) (state_of (after_lines ls (started r)).stage.rows)

-- a dump starts on r, lines follow, and a mark succeeds. The entries from Start to End, replayed over what was read, make the state at End
abbrev pub MarkedDumpHeals : Type 0
MarkedDumpHeals = (c : Caps) (r s : Run) (ls : List (ℕ × Line)) → AreWellFormedLines ls → RunOk c r → r.steps ≡ [] → on_line Mark (after_lines ls (started r)) ≡ Ok s → s.outcome ≡ Done →
    SameStates (replay_all (moves_recorded (window r.stage.newest s.stage.newest (entries_from s))) (copy_of r.stage.rows (reads_in s.steps []))) (state_of s.stage.rows)

-- ---- of the whole run, with what is still to do behind its last line

-- it is a list of lines behind the start of its dump
pub record StartedOn (c : Caps) (whole_run : Run) : Type 0 where
  pub on : Run
  pub lines : List (ℕ × Line)
  pub formed : AreWellFormedLines lines
  pub ok : RunOk c on
  pub none : on.steps ≡ []
  pub whole : whole_run ≡ after_lines lines (started on)

abbrev pub RunIsLines : Type 0
RunIsLines = (s : Schedule) → AreWellFormedLines s.lines → StartedOn s.caps (run s)

-- a dump that has come to its end: it was marked, and the window was sent
pub record Whole (r : Run) : Type 0 where
  pub copy : DumpState
  pub last : Ts
  pub there : r.dump ≡ Some copy
  pub marked : copy.mark ≡ Some last
  pub closed : copy.closed ≡ true

abbrev pub DoneIsWhole : Type 0
DoneIsWhole = (s : Schedule) → AreWellFormedLines s.lines → outcome s ≡ Done → Whole (run s)

-- on what it started, where it was marked, and what was made behind the mark, which is all later. The entries of the window, replayed over what was read, make the state at the mark
pub record Healed (c : Caps) (whole_run : Run) : Type 0 where
  pub on : Run
  pub at_mark : Run
  pub behind : List (ℕ × Line)
  pub ok : RunOk c at_mark
  pub whole : whole_run ≡ after_lines behind at_mark
  pub made : whole_run.made ≡ at_mark.made ++ made_by behind at_mark
  pub later : RisesTo at_mark.stage.newest (made_by behind at_mark) whole_run.stage.newest
  pub healed : SameStates (replay_all (moves_recorded (window on.stage.newest at_mark.stage.newest (entries_from at_mark))) (copy_of on.stage.rows (reads_in at_mark.steps []))) (state_of at_mark.stage.rows)

abbrev pub DoneIsHealed : Type 0
DoneIsHealed = (s : Schedule) → AreWellFormedLines s.lines → outcome s ≡ Done → Healed s.caps (run s)

-- ---- up to a limit

-- no limit, or one later than a moment
abbrev pub IsLate : Option Ts → Ts → Type 0
IsLate None ts = ⊤
IsLate (Some l) ts = earlier ts l ≡ true

-- the moves of the window's entries that are before the limit
abbrev pub window_before : Option Ts → Ts → Ts → Run → List Move
window_before l start last r = moves_recorded (filter (λ (e : OplogEntry). is_before l e.ts) (window start last (entries_from r)))

-- the moments, the rows at Start, that the entries which were sent are the window, and for each limit later than LastRead: the entries of the window that are before it, replayed over what was read, make the state just before the limit, or at End where that is earlier
pub record HealedBefore (s : Schedule) : Type 0 where
  pub rows : Rows
  pub start : Ts
  pub last_read : Ts
  pub last : Ts
  pub moments_are : moments s ≡ record { start = Some start; last_read = Some last_read; end_ts = Some last }
  pub at_start : state_of rows ≡ state (filter (λ (e : Ts × Write). not_later e.0 start) (history s))
  pub sent : sent_in (reads s) ≡ window start last (entries_from (run s))
  pub healed : (l : Option Ts) → IsLate l last_read → SameStates (replay_all (window_before l start last (run s)) (copy_of rows (reads_in (reads s) []))) (at s l)
  -- also where a filter takes part of it
  pub listed : (f : NsName → Bool) (l : Option Ts) → IsLate l last_read → shown (replay_all (taken f (window_before l start last (run s))) (cut f (copy_of rows (reads_in (reads s) [])))) ≡ shown (cut f (at s l))

abbrev pub DoneIsHealedBefore : Type 0
DoneIsHealedBefore = (s : Schedule) → AreWellFormedLines s.lines → outcome s ≡ Done → HealedBefore s
