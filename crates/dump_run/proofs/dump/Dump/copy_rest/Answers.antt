use Rattle.std.proofs.Common.{◌∙◌, suc, refl, sym, ap, arith}
use Rattle.std.specs.FinMap as map
use Rattle.schedule_model.specs.declared.line.Line.TheVariants as lines
use Rattle.history_model.specs.Runs.{rows_left, last_step}
use Rattle.dump_run.specs.Dumps.{Dumping}
use Rattle.dump_run.proofs.Finishing.{rose_on, turning, copy_goes, copy_ends, copy_fails}
use Rattle.dump_run.proofs.Measures.{less_left}
use Rattle.dump_run.proofs.dump.Dump.copy_rest.Goals as goal

pub steps-init : goal.steps-init
steps-init g c = record {
  going = λ e. e;
  names = refl;
  later = omega arith;
  turns = λ k r ok st m. turning k (lines.Copy c.args.ns.now last_step) (suc (rows_left (map.get r.stage.rows.tables c.args.ns.now))) r c.args.self.now (g.K.Sink.end c.args.sink.now).bytes m;
}

pub steps-smaller : goal.steps-smaller
steps-smaller g c = less_left c.args.ns.now (map.get c.args.store.now.rows.tables c.args.ns.now) c.steps.self.state.cursors c.copy.new.self.state.cursors c.in-Ok.ensures.reads

pub steps-preserved : goal.steps-preserved
steps-preserved g c =
    let i = c.steps.invariant in
    let x = c.in-Ok.ensures in
    record {
      going = λ e. x.going;
      names = x.names ∙ i.names;
      later = omega (arith, i.later, x.later);
      turns = λ k r ok st m. copy_goes k c.args.ns.now r c.args.store.now c.args.self.now c.steps.self c.copy.new.self (g.K.Sink.end c.args.sink.now) (g.K.Sink.end c.steps.sink) (g.K.Sink.end c.copy.new.sink) ok st m (i.turns k r ok st m) c.in-Ok.field-0 x.comes;
    }

pub returns-then-is_refusal : goal.returns-then-is_refusal
returns-then-is_refusal g c =
    let i = c.steps.invariant in
    let x = c.in-Err.ensures in
    record {
      does = λ k r ok st m. copy_ends k c.args.ns.now r c.args.store.now c.args.self.now c.steps.self c.copy.new.self (g.K.Sink.end c.args.sink.now) (g.K.Sink.end c.steps.sink) (g.K.Sink.end c.copy.new.sink) ok st m (i.turns k r ok st m) c.in-Err.fault (sym c.is_refusal.ensures ∙ c.if-is_refusal.true) x.comes;
      going = λ e. ap (λ (z : Dumping). z.failed) (x.same (sym c.is_refusal.ensures ∙ c.if-is_refusal.true)) ∙ i.going e;
      names = x.names ∙ i.names;
      later = omega (arith, i.later, x.later);
      cause = λ e h. cc;
    }

pub returns-else-is_refusal : goal.returns-else-is_refusal
returns-else-is_refusal g c =
    let i = c.steps.invariant in
    let x = c.in-Err.ensures in
    record {
      does = λ k r ok st m. copy_fails k c.args.ns.now r c.args.store.now c.args.self.now c.steps.self c.copy.new.self (g.K.Sink.end c.args.sink.now) (g.K.Sink.end c.steps.sink) (g.K.Sink.end c.copy.new.sink) ok st m (i.turns k r ok st m) c.in-Err.fault (sym c.is_refusal.ensures ∙ c.if-is_refusal.false) x.comes;
      going = λ e. tt;
      names = x.names ∙ i.names;
      later = omega (arith, i.later, x.later);
      cause = λ e h. rose_on _ _ _ i.later (x.cause (i.going e) h);
    }
