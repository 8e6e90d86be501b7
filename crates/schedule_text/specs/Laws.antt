-- The laws of reading schedules.
use Rattle.std.specs.Prelude.{◌≡◌, ℕ, List, Ok}
use Rattle.schedule_text.specs.declared.schedule.Schedule.{Schedule}
use Rattle.schedule_text.specs.Reading.{schedule_of}
use Rattle.schedule_text.specs.Grammar.{IsSchedule}

-- what is in the grammar is read
abbrev pub SchedulesAreRead : Type 0
SchedulesAreRead = (text : List ℕ) (s : Schedule) → IsSchedule text s → schedule_of text ≡ Ok s

-- what is read is in the grammar
abbrev pub ReadIsSchedule : Type 0
ReadIsSchedule = (text : List ℕ) (s : Schedule) → schedule_of text ≡ Ok s → IsSchedule text s
