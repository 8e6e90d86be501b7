-- How long an archive is that a dump writes.
use Rattle.std.specs.Prelude.{◌≡◌, ◌≤◌, ℕ, List, length, Ok}
use Rattle.archive_format.specs.Archive.{limit}
use Rattle.schedule_text.specs.declared.schedule.Schedule.{Schedule}
use Rattle.schedule_text.specs.Reading.{schedule_of}
use Rattle.schedule_report.specs.Schedules.{schedule_in}
use Rattle.history_model.specs.Runs.{Done}
use Rattle.history_model.specs.Histories.{outcome}
use Rattle.dump_model.specs.Archives.{written}

-- of a schedule that was read from a text, where its dump is done: no longer than an archive may be
abbrev pub ArchivesAreShort : Type 0
ArchivesAreShort = (text : List ℕ) (s : Schedule) → schedule_of text ≡ Ok s → outcome (schedule_in s) ≡ Done → length (written (schedule_in s)) ≤ limit
