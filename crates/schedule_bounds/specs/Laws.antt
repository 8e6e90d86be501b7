-- What a schedule that was read stays within.
use Rattle.std.specs.Prelude.{◌≡◌, ℕ, List, Ok}
use Rattle.schedule_text.specs.declared.schedule.Schedule.{Schedule}
use Rattle.schedule_text.specs.Reading.{schedule_of}
use Rattle.schedule_report.specs.Schedules.{schedule_in}
use Rattle.history_model.specs.Runs.{Done}
use Rattle.history_model.specs.Histories.{outcome}
use Rattle.dump_content.specs.Laws.{Dumped}

-- where its dump is done, all holds that is asked of a schedule that was dumped
abbrev pub ReadIsDumped : Type 0
ReadIsDumped = (text : List ℕ) (s : Schedule) → schedule_of text ≡ Ok s → outcome (schedule_in s) ≡ Done → Dumped (schedule_in s)
