-- What holds of a run at each moment.
use Rattle.std.specs.Prelude.{⊤, ◌⊎◌, ◌≡◌, List, [], ◌∷◌, true, false, ◌&&◌, Option, Some, None}
use Rattle.std.specs.FinMap as map
use Rattle.bson_value.specs.declared.namespace.NsName.{NsName}
use Rattle.bson_value.specs.declared.value.Ts.{Ts}
use Rattle.coll_state.specs.Rows.{AreSound, state_of}
use Rattle.coll_state.specs.Changes.{no_rows}
use Rattle.copy_model.specs.Cursors.{Cursor, Copy}
use Rattle.history_model.specs.Entries.{OplogEntry}
use Rattle.history_model.specs.Stages.{Caps, Stage, Made, first_ts, earlier, not_later, kept}
use Rattle.history_model.specs.Runs.{Run, DumpState, first_entry, newest_first}
use Rattle.history_model.specs.Histories.{history_of, state}
use Rattle.history_model.specs.WellFormed.{AreWellFormed}
use Rattle.history_model.specs.Recordings.{AllMade, rows_of_made, EachMade, OfRename, reads_in}

-- timestamps rise strictly from the one moment to the other
abbrev pub RisesTo : Ts → List Made → Ts → Type 0
RisesTo low [] high = low ≡ high
RisesTo low (m ∷ ms) high = (earlier low m.ts ≡ true) × RisesTo m.ts ms high

abbrev pub UpTo : Option Ts → Ts → Type 0
UpTo None ts = ⊥
UpTo (Some last) ts = earlier last ts ≡ false

-- no rename is later than the one that is noted
abbrev pub RenamesUpTo : Option Ts → List Made → Type 0
RenamesUpTo o ms = EachMade (λ (m : Made). OfRename m.write (UpTo o m.ts)) ms

-- no rename is made from the one moment to the other, both included
abbrev pub NoRename : Ts → Ts → List Made → Type 0
NoRename a b ms = EachMade (λ (m : Made). OfRename m.write ((not_later a m.ts && not_later m.ts b) ≡ false)) ms

-- of a stage and of all that was made up to it: rows are in order, with well-formed documents; each write is recorded by its entry; the rows are those of the writes; timestamps rise up to the newest; the state of the history is that of the rows; the oplog has the entries that the caps allow; no rename is later than the one that is noted
pub record Holds (c : Caps) (st : Stage) (made : List Made) : Type 0 where
  pub sound : AreSound st.rows
  pub formed : AreWellFormed st.rows
  pub recorded : AllMade made no_rows
  pub rows : rows_of_made made no_rows ≡ st.rows
  pub rises : RisesTo first_ts made st.newest
  pub state : state_of st.rows ≡ state (history_of made)
  pub caps : st.caps ≡ c
  pub oplog : st.oplog ≡ kept c (newest_first made (first_entry ∷ []))
  pub renamed : RenamesUpTo st.renamed made

-- from Start to the mark no rename is made, and the mark isn't later than the newest entry
abbrev pub MarkedOk : Ts → Option Ts → Stage → List Made → Type 0
MarkedOk start None st made = ⊤
MarkedOk start (Some e) st made = NoRename start e made × (earlier st.newest e ≡ false)

abbrev pub DumpOk : Option DumpState → Stage → List Made → Type 0
DumpOk None st made = ⊤
DumpOk (Some d) st made = MarkedOk d.start d.mark st made

abbrev pub RunOk : Caps → Run → Type 0
RunOk c r = Holds c r.stage r.made × DumpOk r.dump r.stage r.made

-- the entry is one of these
abbrev pub Has : List OplogEntry → OplogEntry → Type 0
Has [] k = ⊥
Has (e ∷ es) k = (e ≡ k) ⊎ Has es k

-- the copy stands where the run does
pub record Mirrors (r : Run) (w : Copy) : Type 0 where
  pub copy : DumpState
  pub there : r.dump ≡ Some copy
  pub rows : w.rows ≡ r.stage.rows
  pub cursors : w.cursors ≡ copy.cursors
  pub reads : w.reads ≡ reads_in r.steps []

-- each cursor has ended
abbrev pub CopiedOut : Run → Type 0
CopiedOut r = (d : DumpState) → r.dump ≡ Some d → (n : NsName) (c : Cursor) → map.get d.cursors n ≡ Some c → c.ended ≡ true
