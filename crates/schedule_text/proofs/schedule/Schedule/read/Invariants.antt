use Rattle.std.proofs.Common.{◌≡◌, ◌≤◌, ◌-◌, length}
use Rattle.schedule_text.specs.Reading.{schedule_of, schedule_left, behind_lines}
use Rattle.schedule_text.proofs.schedule.Schedule.read.Given as goal

abbrev pub invariant-lines : goal.invariant-lines
invariant-lines l = record {
  read : schedule_of l.text ≡ behind_lines l.lines (schedule_left l.reader l.number (length l.text - length l.rest) l.rest);
  within : length l.rest ≤ length l.text;
  low : l.number ≤ 1048577;
}

abbrev pub decreases-lines : goal.decreases-lines
decreases-lines l = length l.rest
