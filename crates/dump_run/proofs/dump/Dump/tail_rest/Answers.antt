use Rattle.std.proofs.Common.{◌∙◌, suc, length, sym, arith}
use Rattle.schedule_model.specs.declared.line.Line.TheVariants as lines
use Rattle.history_model.specs.Runs.{last_step}
use Rattle.dump_run.proofs.Finishing.{rose_on, turning, tail_goes, tail_ends, tail_fails}
use Rattle.dump_run.proofs.dump.Dump.tail_rest.Goals as goal

pub steps-init : goal.steps-init
steps-init g c = record {
  going = λ e. e;
  later = omega arith;
  turns = λ k r ok st m w. turning k (lines.Tail last_step) (suc (length r.made)) r c.args.self.now (g.K.Sink.end c.args.sink.now).bytes m;
}

pub steps-preserved : goal.steps-preserved
steps-preserved g c =
    let i = c.steps.invariant in
    let x = c.in-Ok.ensures in
    record {
      going = λ e. x.going;
      later = omega (arith, i.later, x.later);
      turns = λ k r ok st m w. tail_goes k r c.args.store.now c.args.self.now c.steps.self c.tail.new.self (g.K.Sink.end c.args.sink.now) (g.K.Sink.end c.steps.sink) (g.K.Sink.end c.tail.new.sink) ok st m w (i.turns k r ok st m w) c.in-Ok.field-0 x.comes;
    }

pub returns-then-is_refusal : goal.returns-then-is_refusal
returns-then-is_refusal g c =
    let i = c.steps.invariant in
    let x = c.in-Err.ensures in
    record {
      does = λ k r ok st m w. tail_ends k r c.args.store.now c.args.self.now c.steps.self c.tail.new.self (g.K.Sink.end c.args.sink.now) (g.K.Sink.end c.steps.sink) (g.K.Sink.end c.tail.new.sink) ok st m w (i.turns k r ok st m w) c.in-Err.fault (sym c.is_refusal.ensures ∙ c.if-is_refusal.true) x.comes;
      later = omega (arith, i.later, x.later);
      cause = λ e h. cc;
    }

pub returns-else-is_refusal : goal.returns-else-is_refusal
returns-else-is_refusal g c =
    let i = c.steps.invariant in
    let x = c.in-Err.ensures in
    record {
      does = λ k r ok st m w. tail_fails k r c.args.store.now c.args.self.now c.steps.self c.tail.new.self (g.K.Sink.end c.args.sink.now) (g.K.Sink.end c.steps.sink) (g.K.Sink.end c.tail.new.sink) ok st m w (i.turns k r ok st m w) c.in-Err.fault (sym c.is_refusal.ensures ∙ c.if-is_refusal.false) x.comes;
      later = omega (arith, i.later, x.later);
      cause = λ e h. rose_on _ _ _ i.later (x.cause (i.going e) h);
    }
