-- The law of the steps of a dump.
use Rattle.std.specs.Prelude.{◌≡◌, [], Some}
use Rattle.bson_value.specs.declared.value.Ts.{Ts}
use Rattle.coll_state.specs.Rows.{Rows, state_of}
use Rattle.archive_content.specs.Pieces.{AreEnded}
use Rattle.history_model.specs.Runs.{Schedule, Done}
use Rattle.history_model.specs.Histories.{history, moments, reads, outcome}
use Rattle.dump_model.specs.Archives.{state_at, all_pieces}
use Rattle.recorded_entries.specs.Given.{AreGivenLines}
use Rattle.recorded_entries.specs.Kept.{AreKept}
use Rattle.dump_steps.specs.Steps.{AreStepsOf, AllStand}

-- the rows at Start, and the steps
pub record Followed (s : Schedule) : Type 0 where
  pub rows : Rows
  pub kept : AreKept rows
  pub at_start : state_of rows ≡ state_at (moments s).start (history s)
  pub steps : AreStepsOf rows (reads s)
  pub stand : AllStand [] (all_pieces (reads s))
  pub ended : AreEnded (all_pieces (reads s))

abbrev pub StepsFollow : Type 0
StepsFollow = (s : Schedule) → AreGivenLines s.lines → outcome s ≡ Done → Followed s
