-- The laws of drills.
use Rattle.std.specs.Prelude.{◌≡◌, ℕ, ◌+◌, ◌≤◌, [], length, Ok}
use Rattle.std.specs.List.{AllByRecursion}
use Rattle.schedule_model.specs.declared.command.Command.TheVariants as commands
use Rattle.schedule_model.specs.declared.line.Line.{Line}
use Rattle.schedule_model.specs.declared.line.Line.TheVariants as lines
use Rattle.schedule_text.specs.DrillText.{drill_text}
use Rattle.schedule_text.specs.Reading.{schedule_of}
use Rattle.drill_schedule.specs.Drills.{drill}

-- the text of a drill is read as the drill
abbrev pub DrillsAreSchedules : Type 0
DrillsAreSchedules = (n : ℕ) → 1 ≤ n → n ≤ 100000 → schedule_of (drill_text n) ≡ Ok (drill n)

-- a collection is created without options, one document is inserted, updated, replaced or deleted, the dump starts, or documents are copied for it
abbrev pub IsPlainLine : Line → Type 0
IsPlainLine (lines.Cmd (commands.Create ns options)) = options ≡ []
IsPlainLine (lines.Cmd (commands.Document command)) = Unit {0}
IsPlainLine lines.Dump = Unit {0}
IsPlainLine (lines.Copy ns count) = Unit {0}
IsPlainLine _ = ⊥

abbrev pub DrillsArePlain : Type 0
DrillsArePlain = (n : ℕ) → AllByRecursion (λ l. IsPlainLine l.line) (drill n).lines

-- a line for each place, the four that create, and the start of the dump
abbrev pub DrillsHaveLines : Type 0
DrillsHaveLines = (n : ℕ) → 1 ≤ n → length (drill n).lines ≡ n + 5
