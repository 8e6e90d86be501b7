-- Reading a schedule line by line: the lines that it says, or the first line that is none of a schedule.
use Rattle.std.specs.Prelude.{◌≡◌, ◌≤◌, ℕ, ◌+◌, ◌||◌, ◌==◌, Bool, true, false, List, [], ◌∷◌, ◌++◌, length, nat_lt, Option, Some, None, Result, Ok, Err, unwrap_or, if◌then◌else◌}
use Rattle.std.specs.Str.{is_utf8}
use Rattle.schedule_model.specs.declared.command.DocumentCommand.{DocumentCommand}
use Rattle.schedule_model.specs.declared.command.Command.TheVariants as commands
use Rattle.schedule_model.specs.declared.line.Line.{Line}
use Rattle.schedule_model.specs.declared.line.Line.TheVariants as lines
use Rattle.schedule_text.specs.declared.fault.LineKind.{LineKind}
use Rattle.schedule_text.specs.declared.fault.LineKind.TheVariants as kinds
use Rattle.schedule_text.specs.declared.fault.LineFault.{LineFault}
use Rattle.schedule_text.specs.declared.fault.LineFault.TheVariants as faults
use Rattle.schedule_text.specs.declared.verb.Context.{Context}
use Rattle.schedule_text.specs.declared.verb.Context.TheVariants as contexts
use Rattle.schedule_text.specs.declared.statement.Statement.{Statement}
use Rattle.schedule_text.specs.declared.statement.Statement.TheVariants as statements
use Rattle.schedule_text.specs.declared.reader.LineReader.{LineReader}
use Rattle.schedule_text.specs.declared.schedule.NumberedLine.{NumberedLine}
use Rattle.schedule_text.specs.declared.schedule.Schedule.{Schedule}
use Rattle.schedule_text.specs.Lines.{whole_lines, content}
use Rattle.schedule_text.specs.Words.{words_of}
use Rattle.schedule_text.specs.Operands.{Read, ◌>>=◌}
use Rattle.schedule_text.specs.Statements.{statement_of}

-- ---- one line

unfoldable pub text_in : List ℕ → Read (List ℕ)
text_in line = if is_utf8 line then Ok line else Err kinds.Utf8

-- what a line says that stands there
unfoldable pub said : Context → List ℕ → Read Statement
said context line =
    text_in line >>= λ text. words_of context text >>= λ words. statement_of words.0 words.1

-- empty lines and comments say nothing
abbrev pub is_passed : List ℕ → Bool
is_passed [] = true
is_passed (b ∷ bytes) = b == 35

-- ---- what was read so far

-- the cap, the lines that were said, and the commands of the open transaction; it has begun where a line isn't passed over
pub record Reader : Type 0 where
  pub begun : Bool
  pub cap : ℕ
  pub bytes : Option ℕ
  pub lines : List NumberedLine
  pub transaction : Option (List DocumentCommand)

-- nothing: the cap is 1,000 entries where no line says it
abbrev pub at_start : Reader
at_start = record { begun = false; cap = 1000; bytes = None; lines = []; transaction = None }

abbrev pub context_in : Option (List DocumentCommand) → Context
context_in None = contexts.Outside
context_in (Some commands) = contexts.Inside

abbrev pub context_of : Reader → Context
context_of r = if r.begun then context_in r.transaction else contexts.Start

abbrev pub with_line : Reader → ℕ → Line → Reader
with_line r number line = record r { lines = r.lines ++ (record { number = number; line = line }) ∷ [] }

-- a command on a document goes into the open transaction, where there is one
abbrev pub with_document : Reader → ℕ → DocumentCommand → Option (List DocumentCommand) → Reader
with_document r number d None = with_line r number (lines.Cmd (commands.Document d))
with_document r number d (Some before) = record r { transaction = Some (before ++ d ∷ []) }

-- a transaction that is committed is a line with the number of its `commit`; one that is aborted, or never ended, is none
abbrev pub behind : Reader → ℕ → Statement → Reader
behind r number (statements.Cap entries bytes) = record r { cap = entries; bytes = bytes }
behind r number (statements.Document d) = with_document r number d r.transaction
behind r number (statements.Line line) = with_line r number line
behind r number statements.Begin = record r { transaction = Some [] }
behind r number statements.Commit = with_line (record r { transaction = None }) number (lines.Cmd (commands.Txn (unwrap_or r.transaction [])))
behind r number statements.Abort = record r { transaction = None }

-- ---- all lines

-- a schedule has at most 67,108,864 bytes and 1,048,576 lines
abbrev pub is_past_limit : ℕ → ℕ → Bool
is_past_limit number end = nat_lt 67108864 end || nat_lt 1048576 number

abbrev pub Bad : Type 0
Bad = ℕ × LineKind

abbrev pub says : Reader → ℕ → Read Statement → Result Reader Bad
says r number (Ok statement) = Ok (behind (record r { begun = true }) number statement)
says r number (Err kind) = Err (number, kind)

-- a line of this number, and its end in the text
unfoldable pub after_line : Reader → ℕ → ℕ → List ℕ → Result Reader Bad
after_line r number end line =
    if is_past_limit number end then Err (number, kinds.Limit)
    else (if is_passed (content line) then Ok r
    else says r number (said (context_of r) (content line)))

abbrev pub and_then : Result Reader Bad → (Reader → Result Reader Bad) → Result Reader Bad
and_then (Ok r) f = f r
and_then (Err bad) f = Err bad

-- lines from this number on, behind so many bytes
unfoldable pub after_lines : List (List ℕ) → Reader → ℕ → ℕ → Result Reader Bad
after_lines [] r number end = Ok r
after_lines (line ∷ lines) r number end = and_then (after_line r number (end + length line) line) (λ s. after_lines lines s (number + 1) (end + length line))

abbrev pub read_schedule : Result Reader Bad → Result Schedule Bad
read_schedule (Ok r) = Ok (record { cap = r.cap; bytes = r.bytes; lines = r.lines })
read_schedule (Err bad) = Err bad

-- the schedule that a text is, or its first line that is none of a schedule
unfoldable pub schedule_of : List ℕ → Result Schedule Bad
schedule_of text = read_schedule (after_lines (whole_lines text) at_start 1 0)

-- ---- line by line

-- a reader of lines, behind these lines
abbrev pub with_lines : LineReader → List NumberedLine → Reader
with_lines r ls = record { begun = r.begun; cap = r.cap; bytes = r.bytes; lines = ls; transaction = r.transaction }

-- a line adds no line of the schedule, or one
abbrev pub added : Option NumberedLine → List NumberedLine
added None = []
added (Some line) = line ∷ []

-- the schedule that the rest of a text is, from the line of this number on, behind so many bytes
unfoldable pub schedule_left : LineReader → ℕ → ℕ → List ℕ → Result Schedule Bad
schedule_left r number end rest = read_schedule (after_lines (whole_lines rest) (with_lines r []) number end)

-- a schedule behind these lines
abbrev pub behind_lines : List NumberedLine → Result Schedule Bad → Result Schedule Bad
behind_lines before (Ok s) = Ok (record s { lines = before ++ s.lines })
behind_lines before (Err bad) = Err bad

-- The cap is said before all else: it stays as it is once a line was read that isn't passed over. It is within its bounds.
pub record KeepsCap (old new : LineReader) : Type 0 where
  pub begun : old.begun ≡ true → new.begun ≡ true
  pub cap : old.begun ≡ true → new.cap ≡ old.cap
  pub bytes : old.begun ≡ true → new.bytes ≡ old.bytes
  pub least : 1 ≤ old.cap → 1 ≤ new.cap
  pub most : old.cap ≤ 1000000 → new.cap ≤ 1000000

-- What a function returned, seen by view, is what is read, unless memory ran out.
abbrev pub Fails : {Y : Type 0} → LineFault → Result Y Bad → Type 0
Fails faults.NoMemory read = Unit {0}
Fails (faults.Bad number kind) read = read ≡ Err (number, kind)

abbrev pub Gives : {X Y : Type 0} → (X → Y) → Result X LineFault → Result Y Bad → Type 0
Gives view (Ok x) read = read ≡ Ok (view x)
Gives view (Err e) read = Fails e read
