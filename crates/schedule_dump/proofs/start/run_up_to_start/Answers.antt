use Rattle.std.proofs.Common.{List, Bool, Ok, subst, ap, sym, ◌∙◌, le_trans, map as each}
use Rattle.schedule_text.specs.declared.schedule.NumberedLine.{NumberedLine}
use Rattle.schedule_report.specs.Schedules.{numbered}
use Rattle.schedule_dump.specs.Progress.{BeforeStart, AtStart, RunsBefore}
use Rattle.schedule_dump.proofs.Reaching.{starts_at_end}
use Rattle.schedule_dump.proofs.start.run_up_to_start.Goals as goal

pub returns-in-Ok-true-clause-gets : goal.returns-in-Ok-true-clause-gets
returns-in-Ok-true-clause-gets g c s first w =
    subst (λ (b : Bool). RunsBefore (Ok b) s c.run_line_before-starts.new.store (each numbered c.next.new.self) first (g.R.Sink.end c.run_line_before-starts.new.report).bytes) c.in-Ok-true.field-0-test
    (c.in-Ok-true.ensures.runs s first (each numbered c.next.new.self) (subst (λ (x : List NumberedLine). BeforeStart s c.lines.store (each numbered x) first (g.R.Sink.end c.lines.report).bytes) c.in-Some.ensures (c.lines.invariant.waits s first w)))

pub lines-preserved : goal.lines-preserved
lines-preserved g c =
    record {
      waits = λ s first w. subst (λ (b : Bool). RunsBefore (Ok b) s c.run_line_before-starts.new.store (each numbered c.next.new.self) first (g.R.Sink.end c.run_line_before-starts.new.report).bytes) c.in-Ok-false.field-0-test
          (c.in-Ok-false.ensures.runs s first (each numbered c.next.new.self) (subst (λ (x : List NumberedLine). BeforeStart s c.lines.store (each numbered x) first (g.R.Sink.end c.lines.report).bytes) c.in-Some.ensures (c.lines.invariant.waits s first w)));
      later = le_trans c.lines.invariant.later c.in-Ok-false.ensures.later;
    }

pub returns-in-Err-clause-gets : goal.returns-in-Err-clause-gets
returns-in-Err-clause-gets g c s first w =
    c.in-Err.ensures.runs s first (each numbered c.next.new.self) (subst (λ (x : List NumberedLine). BeforeStart s c.lines.store (each numbered x) first (g.R.Sink.end c.lines.report).bytes) c.in-Some.ensures (c.lines.invariant.waits s first w))

pub returns-clause-gets : goal.returns-clause-gets
returns-clause-gets g c s first w =
    subst (λ (x : List NumberedLine). AtStart s c.lines.store (each numbered x) first (g.R.Sink.end c.lines.report).bytes) (c.in_default.ensures.0 ∙ sym c.in_default.ensures.1)
    (starts_at_end s c.lines.store (each numbered c.lines.left) first (g.R.Sink.end c.lines.report).bytes (ap (each numbered) c.in_default.ensures.0) (c.lines.invariant.waits s first w))
