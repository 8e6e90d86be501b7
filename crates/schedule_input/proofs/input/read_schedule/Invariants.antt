use Rattle.std.proofs.Common.{◌-◌, ◌≤◌}
use Rattle.schedule_input.specs.Inputs.{Led}
use Rattle.schedule_input.proofs.input.read_schedule.Given as goal

abbrev pub invariant-lines : goal.invariant-lines
invariant-lines g l = record {
  led : Led l.lines l.read (g.S.Source.end l.fn.input).bytes (g.S.Source.end l.input).bytes;
  least : 1 ≤ l.read.reader.cap;
  most : l.read.reader.cap ≤ 1000000;
  later : (g.S.Source.end l.fn.input).faults ≤ (g.S.Source.end l.input).faults;
}

abbrev pub decreases-lines : goal.decreases-lines
decreases-lines g l = 67108864 - l.read.end
