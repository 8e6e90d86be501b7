use Rattle.std.proofs.Common.{Err, inr, ap}
use Rattle.schedule_report.specs.Schedules.{schedule_in}
use Rattle.dump_run.proofs.Finishing.{rose_on}
use Rattle.tools_commands.proofs.Dumping.{told_all, told_some}
use Rattle.tools_commands.proofs.dump.dump_schedule.Goals as goal

pub returns-in-Ok-write_report : goal.returns-in-Ok-write_report
returns-in-Ok-write_report g c =
    let q = g.R.Sink.end c.args.report.now in
    let t = g.R.Sink.end c.dump.new.report in
    let u = g.R.Sink.end c.write_report.new.report in
    told_all (schedule_in c.args.schedule) c.in-Ok.came (g.K.Sink.end c.args.output.now) (g.K.Sink.end c.dump.new.output) q t u c.in-Ok.ensures.comes.0 c.in-Ok-write_report.ensures.ok

pub returns-in-Err-Failed : goal.returns-in-Err-Failed
returns-in-Err-Failed g c =
    let q = g.R.Sink.end c.args.report.now in
    let t = g.R.Sink.end c.dump.new.report in
    let u = g.R.Sink.end c.write_report.new.report in
    let w = told_some (schedule_in c.args.schedule) c.in-Ok.came (g.K.Sink.end c.args.output.now) (g.K.Sink.end c.dump.new.output) q t u c.in-Ok.ensures.comes.0 c.in-Err-Failed.ensures.err in
    inr (inr (rose_on q.faults t.faults u.faults c.in-Ok.ensures.told (c.in-Err-Failed.ensures.failed (ap Err c.in-Err-Failed.field-0-is)), w.0, w.1))

pub returns-in-Err-NoMemory-write_report : goal.returns-in-Err-NoMemory-write_report
returns-in-Err-NoMemory-write_report g c =
    let q = g.R.Sink.end c.args.report.now in
    let t = g.R.Sink.end c.dump.new.report in
    let u = g.R.Sink.end c.write_report.new.report in
    inr (told_some (schedule_in c.args.schedule) c.in-Ok.came (g.K.Sink.end c.args.output.now) (g.K.Sink.end c.dump.new.output) q t u c.in-Ok.ensures.comes.0 c.in-Err-NoMemory-write_report.ensures.err)
