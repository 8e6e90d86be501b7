use Rattle.std.proofs.Common.{◌-◌, ◌≤◌, []}
use Rattle.schedule_text.specs.Reading.{KeepsCap}
use Rattle.schedule_input.specs.Inputs.{Leads}
use Rattle.schedule_input.proofs.lines.InputLines.next.Given as goal

abbrev pub invariant-lines : goal.invariant-lines
invariant-lines g l = record {
  leads : Leads [] l.fn.self l.self (g.S.Source.end l.fn.input).bytes (g.S.Source.end l.input).bytes;
  keeps : KeepsCap l.fn.self.reader l.self.reader;
  further : l.fn.self.end ≤ l.self.end;
  later : (g.S.Source.end l.fn.input).faults ≤ (g.S.Source.end l.input).faults;
}

abbrev pub decreases-lines : goal.decreases-lines
decreases-lines g l = 67108864 - l.self.end
