use Rattle.std.proofs.Common.{ℕ, List, subst, ap, le_trans, map as each}
use Rattle.schedule_model.specs.declared.line.Line.{Line}
use Rattle.schedule_text.specs.declared.schedule.NumberedLine.{NumberedLine}
use Rattle.schedule_report.specs.Schedules.{numbered}
use Rattle.schedule_dump.specs.Progress.{DuringDump, ends}
use Rattle.schedule_dump.proofs.step.run_beside.Goals as goal

pub lines-preserved : goal.lines-preserved
lines-preserved g c =
    record {
      goes = λ s first w. c.in-Ok.ensures.runs s first (each numbered c.next.new.self)
          (subst (λ (x : List NumberedLine). DuringDump s c.lines.store c.lines.dump (each numbered x) first (ends (g.K.Sink.end c.lines.output) (g.R.Sink.end c.lines.report))) c.in-Some.ensures (c.lines.invariant.goes s first w));
      going = λ e. c.in-Ok.ensures.going (c.lines.invariant.going e);
      written = le_trans c.lines.invariant.written c.in-Ok.ensures.written;
      told = le_trans c.lines.invariant.told c.in-Ok.ensures.told;
    }

pub returns-in-Err-clause-runs : goal.returns-in-Err-clause-runs
returns-in-Err-clause-runs g c s first w =
    c.in-Err.ensures.runs s first (each numbered c.next.new.self)
    (subst (λ (x : List NumberedLine). DuringDump s c.lines.store c.lines.dump (each numbered x) first (ends (g.K.Sink.end c.lines.output) (g.R.Sink.end c.lines.report))) c.in-Some.ensures (c.lines.invariant.goes s first w))

pub returns-clause-runs : goal.returns-clause-runs
returns-clause-runs g c s first w =
    subst (λ (x : List (ℕ × Line)). DuringDump s c.lines.store c.lines.dump x first (ends (g.K.Sink.end c.lines.output) (g.R.Sink.end c.lines.report))) (ap (each numbered) c.in_default.ensures.0) (c.lines.invariant.goes s first w)
