use Rattle.std.proofs.Common.{◌≤◌}
use Rattle.schedule_source.specs.Reading.{Behind, bytes_left}
use Rattle.schedule_source.proofs.input.run_input.Given as goal

abbrev pub invariant-lines : goal.invariant-lines
invariant-lines g l = record {
  behind : Behind l.limit (g.S.Source.end l.fn.input).bytes l.next l.lines l.run (g.S.Source.end l.input).bytes;
  later : (g.S.Source.end l.fn.input).faults ≤ (g.S.Source.end l.input).faults;
}

abbrev pub decreases-lines : goal.decreases-lines
decreases-lines g l = bytes_left l.next l.lines
