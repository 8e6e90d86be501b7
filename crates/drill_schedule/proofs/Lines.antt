-- Lines of a schedule, and the text that has them one behind the other.
use Rattle.std.proofs.Common.{◌≡◌, ◌≢◌, ℕ, ◌+◌, ◌*◌, ◌≤◌, true, List, [], ◌∷◌, ◌++◌, length, None, arith}
use Rattle.std.specs.Str.{is_utf8}
use Rattle.std.proofs.lemmas.List.{length-append}
use Rattle.schedule_model.specs.declared.command.DocumentCommand.{DocumentCommand}
use Rattle.schedule_model.specs.declared.command.Command.{Command}
use Rattle.schedule_model.specs.declared.command.Command.TheVariants as commands
use Rattle.schedule_model.specs.declared.line.Line.{Line}
use Rattle.schedule_model.specs.declared.line.Line.TheVariants as lines
use Rattle.schedule_text.specs.declared.schedule.NumberedLine.{NumberedLine}
use Rattle.schedule_text.specs.Grammar.{IsDocumentCommand, IsCommand, IsStep, AreLines, no_lines, ended, numbered, at, AreSteps, ends, outer, single, dumping}
use Rattle.schedule_text.proofs.LineEnds.{lacks_last}
use Rattle.drill_schedule.specs.Drills.{numbered_from}
use Rattle.drill_schedule.proofs.Bytes.{plain_text, plain_lacks, IsShort}

-- the bytes are this line of a schedule
pub data Says : List ℕ → Line → Type 0 where
  says_change : {bytes : List ℕ} {d : DocumentCommand} → IsDocumentCommand bytes d → Says bytes (lines.Cmd (commands.Document d))
  says_command : {bytes : List ℕ} {c : Command} → IsCommand bytes c → Says bytes (lines.Cmd c)
  says_step : {bytes : List ℕ} {x : Line} → IsStep bytes x → Says bytes x

pub record IsRow (bytes : List ℕ) (x : Line) : Type 0 where
  pub short : IsShort 300 bytes
  pub some : bytes ≢ []
  pub says : Says bytes x

-- the text, its lines, and what they are
pub data AreRows : List ℕ → List (List ℕ) → List Line → Type 0 where
  no_rows : AreRows [] [] []
  one_row : {bytes text : List ℕ} {x : Line} {ls : List (List ℕ)} {xs : List Line} → IsRow bytes x → AreRows text ls xs → AreRows (bytes ++ 10 ∷ text) (bytes ∷ ls) (x ∷ xs)

pub rows_lines : {text : List ℕ} {ls : List (List ℕ)} {xs : List Line} → AreRows text ls xs → AreLines text ls
rows_lines no_rows = no_lines
rows_lines (one_row {bytes} r rest) =
    ended (plain_lacks 10 (omega arith) bytes r.short.plain) (lacks_last 13 bytes r.some (plain_lacks 13 (omega arith) bytes r.short.plain)) (rows_lines rest)

one_step : {n : ℕ} {bytes : List ℕ} {x : Line} {rest : List (ℕ × List ℕ)} {steps : List NumberedLine} → is_utf8 bytes ≡ true → Says bytes x → AreSteps None rest steps → AreSteps None ((n, bytes) ∷ rest) (at n x ∷ steps)
one_step u (says_change h) k = outer u h k
one_step u (says_command h) k = single u h k
one_step u (says_step h) k = dumping u h k

pub rows_steps : (n : ℕ) {text : List ℕ} {ls : List (List ℕ)} {xs : List Line} → AreRows text ls xs → AreSteps None (numbered n ls) (numbered_from n xs)
rows_steps n no_rows = ends
rows_steps n (one_row {bytes} r rest) = one_step (plain_text bytes r.short.plain) r.says (rows_steps (n + 1) rest)

pub rows_bytes : {text : List ℕ} {ls : List (List ℕ)} {xs : List Line} → AreRows text ls xs → length text ≤ 301 * length ls
rows_bytes no_rows = omega arith
rows_bytes (one_row {bytes} {text} r rest) = omega (arith, r.short.few, length-append bytes (10 ∷ text), rows_bytes rest)

pub rows_count : {text : List ℕ} {ls : List (List ℕ)} {xs : List Line} → AreRows text ls xs → length ls ≡ length xs
rows_count no_rows = omega arith
rows_count (one_row r rest) = omega (arith, rows_count rest)
