-- What the lines of a schedule hold that was read from a text.
use Rattle.std.specs.Prelude.{ℕ, ◌≤◌, List, length}
use Rattle.schedule_text.specs.declared.schedule.Schedule.{Schedule}
use Rattle.schedule_text.specs.Grammar.{IsSchedule}
use Rattle.schedule_report.specs.Schedules.{schedule_in}
use Rattle.recorded_entries.specs.Given.{AreGivenLines}
use Rattle.entry_times.specs.Laws.{AreTimedLines}

-- documents as Extended JSON is read
abbrev pub ReadIsGiven : Type 0
ReadIsGiven = (text : List ℕ) (s : Schedule) → IsSchedule text s → AreGivenLines (schedule_in s).lines

-- seconds of 32 bits
abbrev pub ReadIsTimed : Type 0
ReadIsTimed = (text : List ℕ) (s : Schedule) → IsSchedule text s → AreTimedLines (schedule_in s).lines

-- no more lines than the text may have
abbrev pub ReadIsShort : Type 0
ReadIsShort = (text : List ℕ) (s : Schedule) → IsSchedule text s → length (schedule_in s).lines ≤ 1048576
