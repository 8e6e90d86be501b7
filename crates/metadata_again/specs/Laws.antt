-- The metadata of what is kept is read again.
use Rattle.std.specs.FinMap as map
use Rattle.coll_state.specs.Rows.{Rows, state_of}
use Rattle.recorded_entries.specs.Kept.{AreKept}
use Rattle.history_model.specs.Runs.{Schedule}
use Rattle.dump_content.specs.Laws.{Dumped, start_state}
use Rattle.archive_base.specs.Laws.{AreReadAgain}

abbrev pub KeptIsReadAgain : Type 0
KeptIsReadAgain = (r : Rows) → AreKept r → AreReadAgain (map.entries (state_of r))

-- that of the collections at the start of a dump
abbrev pub StartIsReadAgain : Type 0
StartIsReadAgain = (s : Schedule) → Dumped s → AreReadAgain (map.entries (start_state s))
