use Rattle.std.proofs.Common.{◌∷◌, [], subst, refl}
use Rattle.schedule_model.specs.declared.line.Line.{Line}
use Rattle.schedule_model.specs.declared.line.Line.TheVariants.{Copy, Mark, Tail}
use Rattle.schedule_dump.specs.Progress.{DuringDump, ends}
use Rattle.schedule_dump.proofs.Going.{settled, marks_come, command_says, second_start}
use Rattle.schedule_dump.proofs.step.run_line.Goals as goal

pub returns-in-Cmd-clause-runs : goal.returns-in-Cmd-clause-runs
returns-in-Cmd-clause-runs g c s first rest w =
    let o = g.K.Sink.end c.args.output.now in
    let q = g.R.Sink.end c.args.report.now in
    command_says s c.args.store.now c.run_command.new.store c.args.dump.now c.args.line.now.number c.in-Cmd.cmd rest first o q (g.R.Sink.end c.run_command.new.report) c.run_command.result c.run_command.ensures.runs
    (subst (λ (x : Line). DuringDump s c.args.store.now c.args.dump.now ((c.args.line.now.number, x) ∷ rest) first (ends o q)) c.in-Cmd.is w)

pub returns-in-Dump-clause-runs : goal.returns-in-Dump-clause-runs
returns-in-Dump-clause-runs g c s first rest w =
    let o = g.K.Sink.end c.args.output.now in
    let q = g.R.Sink.end c.args.report.now in
    second_start s c.args.store.now c.args.dump.now c.args.line.now.number rest first o q (g.R.Sink.end c.refuse.new.report) c.refuse.result c.refuse.ensures.tells
    (subst (λ (x : Line). DuringDump s c.args.store.now c.args.dump.now ((c.args.line.now.number, x) ∷ rest) first (ends o q)) c.in-Dump.is w)

pub returns-in-Copy-clause-runs : goal.returns-in-Copy-clause-runs
returns-in-Copy-clause-runs g c s first rest w =
    let o = g.K.Sink.end c.args.output.now in
    let q = g.R.Sink.end c.args.report.now in
    let line = Copy c.in-Copy.ns c.in-Copy.n in
    let v = subst (λ (x : Line). DuringDump s c.args.store.now c.args.dump.now ((c.args.line.now.number, x) ∷ rest) first (ends o q)) c.in-Copy.is w in
    settled s c.args.store.now c.args.dump.now c.args.line.now.number line tt rest first o q v c.copy-step.result c.settle.result c.copy-step.new.self (g.K.Sink.end c.copy-step.new.sink) (g.R.Sink.end c.settle.new.report)
    (c.copy-step.ensures.comes v.at v.reached.stands v.meets) c.settle.ensures.settles

pub returns-in-Mark-clause-runs : goal.returns-in-Mark-clause-runs
returns-in-Mark-clause-runs g c s first rest w =
    let o = g.K.Sink.end c.args.output.now in
    let q = g.R.Sink.end c.args.report.now in
    let v = subst (λ (x : Line). DuringDump s c.args.store.now c.args.dump.now ((c.args.line.now.number, x) ∷ rest) first (ends o q)) c.in-Mark.is w in
    settled s c.args.store.now c.args.dump.now c.args.line.now.number Mark tt rest first o q v c.mark-step.result c.settle-in-Mark.result c.mark-step.new.self o (g.R.Sink.end c.settle-in-Mark.new.report)
    (marks_come c.mark-step.result v.at c.args.dump.now c.mark-step.new.self o (c.mark-step.ensures.marks v.at v.reached.stands v.meets)) c.settle-in-Mark.ensures.settles

pub returns-in-Tail-clause-runs : goal.returns-in-Tail-clause-runs
returns-in-Tail-clause-runs g c s first rest w =
    let o = g.K.Sink.end c.args.output.now in
    let q = g.R.Sink.end c.args.report.now in
    let line = Tail c.in-Tail.n in
    let v = subst (λ (x : Line). DuringDump s c.args.store.now c.args.dump.now ((c.args.line.now.number, x) ∷ rest) first (ends o q)) c.in-Tail.is w in
    settled s c.args.store.now c.args.dump.now c.args.line.now.number line tt rest first o q v c.tail-step.result c.settle-in-Tail.result c.tail-step.new.self (g.K.Sink.end c.tail-step.new.sink) (g.R.Sink.end c.settle-in-Tail.new.report)
    (c.tail-step.ensures.comes s.caps v.at (v.reached.good [] ((c.args.line.now.number, line) ∷ rest) refl) v.reached.stands v.meets) c.settle-in-Tail.ensures.settles
