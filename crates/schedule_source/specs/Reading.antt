-- How far a schedule was read while it is run.
use Rattle.std.specs.Prelude.{◌≡◌, ◌≤◌, ℕ, ◌-◌, List, [], ◌∷◌, ◌++◌, map as each, true, Option, Some, None, Ok, IfSome}
use Rattle.bson_value.specs.declared.value.Ts.{Ts}
use Rattle.history_model.specs.Stages.{Caps}
use Rattle.schedule_text.specs.declared.reader.LineReader.{LineReader}
use Rattle.schedule_text.specs.declared.schedule.NumberedLine.{NumberedLine}
use Rattle.schedule_text.specs.Reading.{at_start, schedule_of, with_lines}
use Rattle.schedule_input.specs.Inputs.{Led, schedule_so_far}
use Rattle.schedule_input.specs.Places.{Place}
use Rattle.schedule_report.specs.Schedules.{numbered}
use Rattle.schedule_source.specs.declared.run.SourceRun.{SourceRun}
use Rattle.schedule_source.specs.Progress.{RunsTo, at_first, behind_lines}

-- nothing was read
pub record IsUnread (p : Place) : Type 0 where
  pub reader : with_lines p.reader [] ≡ at_start
  pub number : p.number ≡ 1
  pub end : p.end ≡ 0
  pub left : p.left ≡ []

abbrev pub caps_in : LineReader → Caps
caps_in r = record { entries = r.cap; bytes = r.bytes }

-- where the input is known, these are all of its lines, and all of it was read
pub record IsWhole (lines : List NumberedLine) (p : Place) (all now : Option (List ℕ)) : Type 0 where
  pub is : IfSome all (λ a. schedule_of a ≡ Ok (schedule_so_far p.reader lines))
  pub whole : IfSome all (λ a. now ≡ Some [])

-- the last line that was read, and the lines so far
pub record IsFollowed (lines : List NumberedLine) (line : NumberedLine) (p : Place) (all now : Option (List ℕ)) : Type 0 where
  pub led : Led (lines ++ line ∷ []) p all now
  pub begun : p.reader.begun ≡ true
  pub few : p.end ≤ 67108864

abbrev pub Next : Option NumberedLine → List NumberedLine → Place → Option (List ℕ) → Option (List ℕ) → Type 0
Next (Some line) lines p all now = IsFollowed lines line p all now
Next None lines p all now = IsWhole lines p all now

-- the lines before the next one were run
pub record AreRun (l : Option Ts) (all : Option (List ℕ)) (next : Option NumberedLine) (p : Place) (r : SourceRun) (now : Option (List ℕ)) : Type 0 where
  pub lines : List NumberedLine
  pub runs : RunsTo r (behind_lines l (each numbered lines) (at_first (caps_in p.reader)))
  pub reads : Next next lines p all now

unfoldable pub Behind : Option Ts → Option (List ℕ) → Option NumberedLine → Place → SourceRun → Option (List ℕ) → Type 0
Behind l all next p r now = AreRun l all next p r now

-- how much may still be read
abbrev pub bytes_left : Option NumberedLine → Place → ℕ
bytes_left None p = 0
bytes_left (Some line) p = 67108865 - p.end
