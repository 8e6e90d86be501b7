use Rattle.std.proofs.Common.{◌≡◌, ◌≤◌, ◌-◌, length, drop, None}
use Rattle.std.specs.FinMap as map
use Rattle.history_model.specs.Stages.{Caps}
use Rattle.history_model.specs.Invariants.{RunOk}
use Rattle.history_model.specs.Runs.{Run}
use Rattle.store_core.specs.Stores.{StandsAt}
use Rattle.dump_run.specs.Dumps.{Meets}
use Rattle.dump_run.proofs.Finishing.{Naming}
use Rattle.dump_run.proofs.dump.Dump.copy_all.Given as goal

abbrev pub invariant-names : goal.invariant-names
invariant-names g l = record {
  going : l.fn.self.failed ≡ None → l.self.failed ≡ None;
  names : map.keys l.self.state.cursors ≡ map.keys l.fn.self.state.cursors;
  later : (g.K.Sink.end l.fn.sink).faults ≤ (g.K.Sink.end l.sink).faults;
  copies : (c : Caps) (r : Run) → RunOk c r → StandsAt l.store r.stage → Meets l.fn.self r → Naming c (map.keys l.fn.self.state.cursors) (drop l.at (map.keys l.fn.self.state.cursors)) r l.self (g.K.Sink.end l.fn.sink).bytes (g.K.Sink.end l.sink).bytes;
}

abbrev pub decreases-names : goal.decreases-names
decreases-names g l = length (map.keys l.fn.self.state.cursors) - l.at
