use Rattle.std.proofs.Common.{◌≡◌, ◌≤◌, None}
use Rattle.schedule_model.specs.declared.line.Line.TheVariants as lines
use Rattle.history_model.specs.Stages.{Caps}
use Rattle.history_model.specs.Invariants.{RunOk}
use Rattle.history_model.specs.Laws.{Whole}
use Rattle.history_model.specs.Runs.{Run, Done, last_step, tailed_out}
use Rattle.store_core.specs.Stores.{StandsAt}
use Rattle.dump_run.specs.Dumps.{Meets}
use Rattle.dump_run.proofs.Finishing.{Turning}
use Rattle.dump_run.proofs.Measures.{sent_left}
use Rattle.dump_run.proofs.dump.Dump.tail_rest.Given as goal

abbrev pub invariant-steps : goal.invariant-steps
invariant-steps g l = record {
  going : l.fn.self.failed ≡ None → l.self.failed ≡ None;
  later : (g.K.Sink.end l.fn.sink).faults ≤ (g.K.Sink.end l.sink).faults;
  turns : (c : Caps) (r : Run) → RunOk c r → StandsAt l.store r.stage → Meets l.fn.self r → ((tailed_out r).outcome ≡ Done → Whole (tailed_out r)) → Turning c (lines.Tail last_step) (tailed_out r) r l.self (g.K.Sink.end l.fn.sink).bytes (g.K.Sink.end l.sink).bytes;
}

abbrev pub decreases-steps : goal.decreases-steps
decreases-steps g l = sent_left l.self.state.closed l.self.state.sent
