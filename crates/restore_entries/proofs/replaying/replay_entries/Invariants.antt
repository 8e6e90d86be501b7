use Rattle.std.proofs.Common.{◌≡◌, map, take, drop}
use Rattle.state_model.specs.Replay.{replay_all}
use Rattle.coll_state.specs.Rows.{state_of}
use Rattle.replay.specs.Refusals.{first, first_refused}
use Rattle.replay.specs.Moves.{moves_of}
use Rattle.entry_model.specs.Edits.{gathered}
use Rattle.restore_entries.proofs.replaying.replay_entries.Given as goal

abbrev pub invariant-loop-entry : goal.invariant-loop-entry
invariant-loop-entry l = record {
  moves : state_of l.state ≡ replay_all (gathered moves_of (take l.entry-index l.entries)) (state_of l.fn.state);
  none : first (map first_refused l.entries) ≡ first (map first_refused (drop l.entry-index l.entries));
}
