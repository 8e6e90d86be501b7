use Rattle.std.proofs.Common.{◌≡◌, ◌≤◌, [], ◌∷◌, None}
use Rattle.std.specs.FinMap as map
use Rattle.schedule_model.specs.declared.line.Line.TheVariants as lines
use Rattle.history_model.specs.Stages.{Caps}
use Rattle.history_model.specs.Invariants.{RunOk}
use Rattle.history_model.specs.Runs.{Run, last_step, copied_out}
use Rattle.store_core.specs.Stores.{StandsAt}
use Rattle.dump_run.specs.Dumps.{Meets}
use Rattle.dump_run.proofs.Finishing.{Turning}
use Rattle.dump_run.proofs.Measures.{read_left}
use Rattle.dump_run.proofs.dump.Dump.copy_rest.Given as goal

abbrev pub invariant-steps : goal.invariant-steps
invariant-steps g l = record {
  going : l.fn.self.failed ≡ None → l.self.failed ≡ None;
  names : map.keys l.self.state.cursors ≡ map.keys l.fn.self.state.cursors;
  later : (g.K.Sink.end l.fn.sink).faults ≤ (g.K.Sink.end l.sink).faults;
  turns : (c : Caps) (r : Run) → RunOk c r → StandsAt l.store r.stage → Meets l.fn.self r → Turning c (lines.Copy l.ns last_step) (copied_out (l.ns ∷ []) r) r l.self (g.K.Sink.end l.fn.sink).bytes (g.K.Sink.end l.sink).bytes;
}

abbrev pub decreases-steps : goal.decreases-steps
decreases-steps g l = read_left (map.get l.self.state.cursors l.ns) (map.get l.store.rows.tables l.ns)
