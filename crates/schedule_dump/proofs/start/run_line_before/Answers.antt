use Rattle.std.proofs.Common.{◌∷◌, subst}
use Rattle.schedule_model.specs.declared.line.Line.{Line}
use Rattle.schedule_dump.specs.Progress.{BeforeStart}
use Rattle.schedule_dump.proofs.Reaching.{waits_command, waits_command_stops, waits_refused, waits_stops, starts_here}
use Rattle.schedule_dump.proofs.start.run_line_before.Goals as goal

pub returns-in-Dump-clause-runs : goal.returns-in-Dump-clause-runs
returns-in-Dump-clause-runs g c s first rest w =
    starts_here s c.args.store.now c.args.line.now.number rest first (g.R.Sink.end c.args.report.now).bytes (subst (λ (x : Line). BeforeStart s c.args.store.now ((c.args.line.now.number, x) ∷ rest) first (g.R.Sink.end c.args.report.now).bytes) c.in-Dump.is w)

pub returns-in-Ok-clause-runs : goal.returns-in-Ok-clause-runs
returns-in-Ok-clause-runs g c s first rest w =
    waits_command s c.args.store.now c.run_command.new.store c.args.line.now.number c.in-Cmd.cmd rest first (g.R.Sink.end c.args.report.now).bytes (g.R.Sink.end c.run_command.new.report).bytes c.in-Ok.ensures.runs
    (subst (λ (x : Line). BeforeStart s c.args.store.now ((c.args.line.now.number, x) ∷ rest) first (g.R.Sink.end c.args.report.now).bytes) c.in-Cmd.is w)

pub returns-in-Err-clause-runs : goal.returns-in-Err-clause-runs
returns-in-Err-clause-runs g c s first rest w = (
  c.in-Err.ensures.runs.0,
  waits_command_stops s c.args.store.now c.args.line.now.number c.in-Cmd.cmd rest first (g.R.Sink.end c.args.report.now).bytes (g.R.Sink.end c.run_command.new.report).bytes c.in-Err.ensures.runs.1
      (subst (λ (x : Line). BeforeStart s c.args.store.now ((c.args.line.now.number, x) ∷ rest) first (g.R.Sink.end c.args.report.now).bytes) c.in-Cmd.is w),
)

pub returns-in-Ok-refuse-clause-runs : goal.returns-in-Ok-refuse-clause-runs
returns-in-Ok-refuse-clause-runs g c s first rest w =
    waits_refused s c.args.store.now c.args.line.now.number c.args.line.now.line rest first (g.R.Sink.end c.args.report.now).bytes (g.R.Sink.end c.refuse.new.report).bytes w c.in-Copy.is c.in-Ok-refuse.ensures.tells

pub returns-in-Err-refuse-clause-runs : goal.returns-in-Err-refuse-clause-runs
returns-in-Err-refuse-clause-runs g c s first rest w = (
  c.in-Err-refuse.ensures.tells.0,
  waits_stops s c.args.store.now c.args.line.now.number c.args.line.now.line rest first (g.R.Sink.end c.args.report.now).bytes (g.R.Sink.end c.refuse.new.report).bytes w c.in-Copy.is c.in-Err-refuse.ensures.tells.1,
)
