-- The timestamps of what a schedule makes have 32 bits each, where it is short and so have the seconds of its clock.
use Rattle.std.specs.Prelude.{⊤, ℕ, ◌+◌, ◌*◌, ◌<◌, ◌^◌, List, [], ◌∷◌, length}
use Rattle.schedule_model.specs.declared.command.Command.{Command}
use Rattle.schedule_model.specs.declared.command.Command.TheVariants.{At}
use Rattle.schedule_model.specs.declared.line.Line.{Line}
use Rattle.schedule_model.specs.declared.line.Line.TheVariants.{Cmd}
use Rattle.entry_documents.specs.Laws.{FitsStamp}
use Rattle.history_model.specs.Runs.{Schedule, run}
use Rattle.history_model.specs.Recordings.{EachMade}

-- the seconds that a command sets
abbrev pub HasSeconds : Command → Type 0
HasSeconds (At s) = s < 2 ^ 32
HasSeconds _ = ⊤

abbrev pub IsTimedLine : Line → Type 0
IsTimedLine (Cmd k) = HasSeconds k
IsTimedLine _ = ⊤

abbrev pub AreTimedLines : List (ℕ × Line) → Type 0
AreTimedLines [] = ⊤
AreTimedLines (l ∷ ls) = IsTimedLine l.1 × AreTimedLines ls

-- a line makes two entries at most
abbrev pub TimestampsFit : Type 0
TimestampsFit = (s : Schedule) → AreTimedLines s.lines → 2 * length s.lines + 1 < 2 ^ 32 → EachMade (λ m. FitsStamp m.ts) (run s).made
