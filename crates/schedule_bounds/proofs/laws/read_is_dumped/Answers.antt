use Rattle.std.proofs.Common.{arith}
use Rattle.schedule_report.specs.Schedules.{schedule_in}
use Rattle.schedule_bounds.proofs.laws.read_is_dumped.Goals as goal

pub returns : goal.returns
returns c text s read done =
    let is = c.read_is_schedule.ensures text s read in
    let h = schedule_in s in
    let given = c.read_is_given.ensures text s is in
    let short = c.read_is_short.ensures text s is in
    let times = c.timestamps_fit.ensures h (c.read_is_timed.ensures text s is) (omega (arith, short)) in
    record {
      given = given;
      done = done;
      times = times;
      texts = c.metadata_fits.ensures h given done;
      bytes = c.written_are_bytes.ensures h given done times;
    }
