use Rattle.std.proofs.Common.{sym, subst}
use Rattle.tool_io.proofs.Writes.{on_ok}
use Rattle.schedule_model.specs.declared.line.Line.{Line}
use Rattle.schedule_report.specs.Schedules.{numbered}
use Rattle.schedule_source.specs.Progress.{RunsTo, behind_line}
use Rattle.schedule_source.proofs.Progresses.{advances, passed_over, not_run, was_run}
use Rattle.schedule_source.proofs.run.SourceRun.take.Goals as goal

pub returns-then-self : goal.returns-then-self
returns-then-self c =
    let l = c.args.limit in
    let i = c.args.line.now.number in
    let old = c.args.self.now in
    let new = c.command.new.self in
    on_ok c.command.result (λ f. advances l (numbered c.args.line.now) old new (λ p t. subst (λ (x : Line). RunsTo new (behind_line l (i, x) p)) (sym c.in-Cmd.is) (was_run l i c.in-Cmd.cmd old new p c.if-self.true t (f p t)))) c.command.ensures

pub returns-else-self : goal.returns-else-self
returns-else-self c = advances c.args.limit (numbered c.args.line.now) c.args.self.now c.args.self.now (λ p t. not_run c.args.limit (numbered c.args.line.now) c.args.self.now p c.if-self.false t)

pub returns-in_default : goal.returns-in_default
returns-in_default c = advances c.args.limit (numbered c.args.line.now) c.args.self.now c.args.self.now (λ p t. passed_over c.args.limit (numbered c.args.line.now) c.args.self.now p c.in_default.not-Cmd t)
