-- What is read of an input that should be a schedule.
use Rattle.std.specs.Prelude.{⊤, ◌≡◌, ◌≤◌, ◌<◌, ◌⊎◌, ℕ, ◌+◌, List, [], ◌∷◌, ◌++◌, take, length, Bool, true, false, Option, Some, None, Result, Ok, Err, IfSome, IsSome}
use Rattle.std.specs.Io.KnownBytes.{Consumes, IsAtEnd}
use Rattle.tool_io.specs.Causes.{Rose}
use Rattle.tool_io.specs.Ends.{End}
use Rattle.schedule_text.specs.declared.fault.LineFault.{LineFault}
use Rattle.schedule_text.specs.declared.fault.LineFault.TheVariants as lines
use Rattle.schedule_text.specs.declared.reader.LineReader.{LineReader}
use Rattle.schedule_text.specs.declared.schedule.NumberedLine.{NumberedLine}
use Rattle.schedule_text.specs.declared.schedule.Schedule.{Schedule}
use Rattle.schedule_text.specs.Words.{lacks}
use Rattle.schedule_text.specs.Lines.{EndsAt}
use Rattle.schedule_text.specs.Reading.{Bad, schedule_of, schedule_left, behind_lines}
use Rattle.schedule_input.specs.declared.fault.InputFault.{InputFault}
use Rattle.schedule_input.specs.declared.fault.InputFault.TheVariants as faults
use Rattle.schedule_input.specs.Places.{Place}

-- where the input is known, it is this schedule, or has this first bad line
abbrev pub IsSchedule : Option (List ℕ) → Schedule → Type 0
IsSchedule known s = IfSome known (λ all. schedule_of all ≡ Ok s)

-- the schedule, with all of the input read; its first bad line; or a read failed
abbrev pub Reads : Result Schedule InputFault → End → End → Type 0
Reads (Ok s) before after = IsSchedule before.bytes s × IfSome before.bytes (λ all. after.bytes ≡ Some [])
Reads (Err (faults.Bad number kind)) before after = IfSome before.bytes (λ all. schedule_of all ≡ Err (number, kind))
Reads (Err faults.ReadFault) before after = Rose before.faults after.faults
Reads (Err faults.NoMemory) before after = ⊤

-- a fault of reading alone
abbrev pub FailsReading : InputFault → ℕ → ℕ → Type 0
FailsReading (faults.Bad number kind) before after = ⊥
FailsReading faults.ReadFault before after = Rose before after
FailsReading faults.NoMemory before after = ⊤

-- what is told of a line that wasn't read, or of a read that failed behind it
abbrev pub IsTold : LineFault → InputFault → ℕ → ℕ → Type 0
IsTold fault (faults.Bad number kind) before after = fault ≡ lines.Bad number kind
IsTold fault faults.ReadFault before after = Rose before after
IsTold fault faults.NoMemory before after = ⊤

-- ---- line by line

-- the schedule that comes from a place on, with this rest of the input
abbrev pub to_come : Place → List ℕ → Result Schedule Bad
to_come p rest = schedule_left p.reader p.number p.end (p.left ++ rest)

-- where the input is known, these lines were read of it, and what comes is behind them
abbrev pub Leads : List NumberedLine → Place → Place → Option (List ℕ) → Option (List ℕ) → Type 0
Leads lines old new None after = ⊤
Leads lines old new (Some rest) None = ⊥
Leads lines old new (Some rest) (Some now) = to_come old rest ≡ behind_lines lines (to_come new now)

-- the schedule of these lines, with the caps that were read
abbrev pub schedule_so_far : LineReader → List NumberedLine → Schedule
schedule_so_far r lines = record { cap = r.cap; bytes = r.bytes; lines = lines }

-- where it is known, all of it was read, and no line comes
abbrev pub IsOver : Place → Place → Option (List ℕ) → Option (List ℕ) → Type 0
IsOver old new None after = ⊤
IsOver old new (Some rest) after = (after ≡ Some []) × (to_come old rest ≡ Ok (schedule_so_far new.reader []))

-- why no line was read: the first bad line, a read that failed, or no memory
abbrev pub Fails : Place → InputFault → End → End → Type 0
Fails old (faults.Bad number kind) before after = IfSome before.bytes (λ rest. to_come old rest ≡ Err (number, kind))
Fails old faults.ReadFault before after = Rose before.faults after.faults
Fails old faults.NoMemory before after = ⊤

-- the next line, or none at the end
abbrev pub Gives : Place → Place → Result (Option NumberedLine) InputFault → End → End → Type 0
Gives old new (Ok (Some line)) before after = Leads (line ∷ []) old new before.bytes after.bytes
Gives old new (Ok None) before after = IsOver old new before.bytes after.bytes
Gives old new (Err fault) before after = Fails old fault before after

-- the lines of more bytes were read
pub record Further (old new : Place) : Type 0 where
  pub longer : old.end < new.end
  pub few : new.end ≤ 67108864

-- a line was read, and the reader has begun where it is one of the schedule
pub record GoesOn (old new : Place) (line : Option NumberedLine) : Type 0 where
  pub further : Further old new
  pub begun : IsSome line → new.reader.begun ≡ true

abbrev pub NextIsFurther : Place → Place → Option NumberedLine → Type 0
NextIsFurther old new (Some line) = Further old new × (new.reader.begun ≡ true)
NextIsFurther old new None = ⊤

-- where the input is known, these lines were read of it so far
abbrev pub Led : List NumberedLine → Place → Option (List ℕ) → Option (List ℕ) → Type 0
Led lines p None now = ⊤
Led lines p (Some all) None = ⊥
Led lines p (Some all) (Some rest) = schedule_of all ≡ behind_lines lines (to_come p rest)

-- ---- pieces

-- bytes with those behind them that were read
pub record Grown (old new : List ℕ) (before after : Option (List ℕ)) : Type 0 where
  pub bytes : List ℕ
  pub grown : new ≡ old ++ bytes
  pub consumed : Consumes before after bytes

-- so many bytes at most were read: some where there are more, and none at the end or without room
pub record ReadsMore (room : ℕ) (old new : List ℕ) (more : Bool) (before after : Option (List ℕ)) : Type 0 where
  pub read : Grown old new before after
  pub few : length read.bytes ≤ room
  pub some : more ≡ true → 0 < length read.bytes
  pub ended : more ≡ false → (new ≡ old) × (IsAtEnd after ⊎ (room ≡ 0))

-- all that was read is one line without an end, and nothing comes behind it, or more than a schedule has
pub record IsLast (n : ℕ) (bytes : List ℕ) (end : ℕ) (after : Option (List ℕ)) : Type 0 where
  pub all : n ≡ length bytes
  pub lacks_feed : lacks 10 bytes ≡ true
  pub last : IsAtEnd after ⊎ (end + n ≡ 67108865)

-- the next line has so many bytes, and was read
pub record IsNext (n : ℕ) (old new : List ℕ) (end : ℕ) (before after : Option (List ℕ)) : Type 0 where
  pub read : Grown old new before after
  pub ends : EndsAt n new ⊎ IsLast n new end after

-- the next line has so many bytes, which were read, and is still to be taken; it has none at the end
pub record IsFound (n : ℕ) (old new : Place) (before after : Option (List ℕ)) : Type 0 where
  pub leads : Leads [] old new before after
  pub over : n ≡ 0 → IsOver old new before after
  pub ends : EndsAt n new.left ⊎ IsLast n new.left new.end after
  pub within : n ≤ length new.left
  pub same : new.end ≡ old.end

-- the law that a text of more bytes than a schedule has is judged by its first 67,108,865 bytes
abbrev pub LongTextsAreCut : Type 0
LongTextsAreCut = (text : List ℕ) → schedule_of (take 67108865 text) ≡ schedule_of text
