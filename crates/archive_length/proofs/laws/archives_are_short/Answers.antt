use Rattle.std.proofs.Common.{subst, sym}
use Rattle.history_model.specs.Runs.{run}
use Rattle.schedule_report.specs.Schedules.{schedule_in}
use Rattle.dump_steps.proofs.DumpRuns.{lines_formed}
use Rattle.dump_content.proofs.Sound.{EachEntry, IsFine, window_fine}
use Rattle.archive_length.proofs.Sizes.{read_small}
use Rattle.archive_length.proofs.Lengths.{length_is}
use Rattle.archive_length.proofs.laws.archives_are_short.Goals as goal

pub returns : goal.returns
returns c text s read done =
    let h = schedule_in s in
    let is = c.read_is_schedule.ensures text s read in
    let d = c.read_is_dumped.ensures text s read done in
    let healed = c.done_is_healed_before.ensures h (lines_formed h.lines d.given) done in
    let fine = subst (EachEntry IsFine) (sym healed.sent) (window_fine (run h) healed.start healed.last (c.recorded_is_good.ensures.recorded h d.given) d.times) in
    length_is h d (c.steps_follow.ensures h d.given done) healed fine (read_small text s is)
