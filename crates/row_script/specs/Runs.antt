-- A run of a script: its rows are asked for in their order, and counted, and each that differs is told.
use Rattle.std.specs.Prelude.{◌≡◌, ℕ, Bool, true, false, List, Option, IfSome}
use Rattle.std.specs.List.{FoldsTo}
use Rattle.std.specs.Str.Lines.{lines}
use Rattle.std.specs.Io.KnownBytes.{Appends}
use Rattle.row_script.specs.Rows.{Row, IsRow, is_passed_over, before_blank, behind_blank, differs, told}
use Rattle.row_script.specs.Tallies.{no_rows, with_row, last_line}
use Rattle.row_script.specs.declared.tally.Tally.{Tally}

-- where a run stands: who answers, the rows so far, and what was written, where that is known
pub record Progress (A : Type 0) : Type 0 where
  pub respondent : A
  pub tally : Tally
  pub written : Option (List ℕ)

-- `Gives old verb text answer new`: the one who answers may give this answer, and is then this one
module _ {A : Type 0} (Gives : A → List ℕ → List ℕ → List ℕ → A → Type 0) where
  -- the row of a line is asked for, counted, and told where it differs
  pub record Asks (old : Progress A) (line : List ℕ) (new : Progress A) : Type 0 where
    pub row : Row
    pub answer : List ℕ
    pub is_row : IsRow line row
    pub given : Gives old.respondent (before_blank row.asked) (behind_blank row.asked) answer new.respondent
    pub counted : new.tally ≡ with_row old.tally (differs row answer)
    pub told_if_differs : Appends old.written new.written (told row answer)

  abbrev pub TakesUnless : Bool → Progress A → List ℕ → Progress A → Type 0
  TakesUnless true old line new = old ≡ new
  TakesUnless false old line new = Asks old line new

  -- a line that is no row changes nothing
  abbrev pub Takes : Progress A → List ℕ → Progress A → Type 0
  Takes old line new = TakesUnless (is_passed_over line) old line new

  -- the lines of a script are taken from the first one on
  abbrev pub Runs : Progress A → List ℕ → Progress A → Type 0
  Runs first script last = FoldsTo Takes first (lines script) last

  -- a script is read whole, and run, and the last line tells of its rows
  pub record Tells (old : A) (left before : Option (List ℕ)) (tally : Tally) (new : A) (after : Option (List ℕ)) : Type 0 where
    pub script : List ℕ
    pub is_read : IfSome left (λ text. script ≡ text)
    pub written : Option (List ℕ)
    pub runs : Runs (record { respondent = old; tally = no_rows; written = before }) script (record { respondent = new; tally = tally; written = written })
    pub last_line_told : Appends written after (last_line tally)
