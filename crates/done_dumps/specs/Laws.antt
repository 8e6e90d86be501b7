-- When the dump of a schedule is done, and where its window ends.
use Rattle.std.specs.Prelude.{⊤, ℕ, ◌≡◌, ◌+◌, ◌*◌, ◌≤◌, List, [], ◌∷◌, length, Option, Some, None}
use Rattle.bson_value.specs.declared.value.Ts.{Ts}
use Rattle.schedule_model.specs.declared.command.Command.{Command}
use Rattle.schedule_model.specs.declared.command.Command.TheVariants.{Rename}
use Rattle.schedule_model.specs.declared.line.Line.{Line}
use Rattle.schedule_model.specs.declared.line.Line.TheVariants.{Cmd, Mark}
use Rattle.history_model.specs.Runs.{Schedule, Done, run}
use Rattle.history_model.specs.Histories.{before, moments, at, outcome, source}

-- ---- lines

-- a command that renames no collection
abbrev pub IsNoRename : Command → Type 0
IsNoRename (Rename a b) = ⊥
IsNoRename _ = ⊤

abbrev pub IsNoRenameLine : Line → Type 0
IsNoRenameLine (Cmd k) = IsNoRename k
IsNoRenameLine _ = ⊤

abbrev pub AreNoRenames : List (ℕ × Line) → Type 0
AreNoRenames [] = ⊤
AreNoRenames (l ∷ ls) = IsNoRenameLine l.1 × AreNoRenames ls

-- a line that doesn't mark the dump
abbrev pub IsNoMark : Line → Type 0
IsNoMark Mark = ⊥
IsNoMark _ = ⊤

abbrev pub AreNoMarks : List (ℕ × Line) → Type 0
AreNoMarks [] = ⊤
AreNoMarks (l ∷ ls) = IsNoMark l.1 × AreNoMarks ls

-- ---- dumps that are done

-- no line is a rename, and the oplog has room for all: for any number of bytes, and for the first entry and as many as are made
pub record Quiet (s : Schedule) : Type 0 where
  pub no_rename : AreNoRenames s.lines
  pub any_bytes : s.caps.bytes ≡ None
  pub room : 1 + length (run s).made ≤ s.caps.entries

abbrev pub QuietDumpsAreDone : Type 0
QuietDumpsAreDone = (s : Schedule) → Quiet s → outcome s ≡ Done

-- for the first entry and two of each line
pub record Plain (s : Schedule) : Type 0 where
  pub no_rename : AreNoRenames s.lines
  pub any_bytes : s.caps.bytes ≡ None
  pub room : 1 + 2 * length s.lines ≤ s.caps.entries

abbrev pub PlainDumpsAreDone : Type 0
PlainDumpsAreDone = (s : Schedule) → Plain s → outcome s ≡ Done

-- ---- moments

abbrev pub IsTold : Option Ts → Type 0
IsTold o = (ts : Ts) × (o ≡ Some ts)

-- of every dump, also one that fails
abbrev pub DumpsStart : Type 0
DumpsStart = (s : Schedule) → IsTold (moments s).start × IsTold (moments s).last_read

abbrev pub DoneDumpsAreMarked : Type 0
DoneDumpsAreMarked = (s : Schedule) → outcome s ≡ Done → IsTold (moments s).end_ts

-- End is the newest entry's moment
abbrev pub UnmarkedDumpsEndLast : Type 0
UnmarkedDumpsEndLast = (s : Schedule) → AreNoMarks s.lines → outcome s ≡ Done → (moments s).end_ts ≡ Some (run s).stage.newest

-- up to any limit, and with none; a dump that fails before its mark has no end
abbrev pub UnmarkedStatesAreLast : Type 0
UnmarkedStatesAreLast = (s : Schedule) → AreNoMarks s.lines → (l : Option Ts) → at s l ≡ before s l

-- ---- a source

abbrev pub SourceMakesAll : Type 0
SourceMakesAll = (s : Schedule) → (source None s).made ≡ (run s).made
