-- A schedule that was read, in the words of histories.
use Rattle.std.specs.Prelude.{ℕ, List, map as each}
use Rattle.schedule_model.specs.declared.line.Line.{Line}
use Rattle.schedule_text.specs.declared.schedule.NumberedLine.{NumberedLine}
use Rattle.schedule_text.specs.declared.schedule.Schedule.{Schedule as Text}
use Rattle.history_model.specs.Runs.{Schedule}

abbrev pub numbered : NumberedLine → ℕ × Line
numbered l = (l.number, l.line)

abbrev pub schedule_in : Text → Schedule
schedule_in s = record { caps = record { entries = s.cap; bytes = s.bytes }; lines = each numbered s.lines }
