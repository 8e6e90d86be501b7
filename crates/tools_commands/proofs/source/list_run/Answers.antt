use Rattle.std.proofs.Common.{map as each}
use Rattle.schedule_report.specs.Lines.{refusals_text}
use Rattle.schedule_source.specs.Progress.{refusal_in}
use Rattle.tools_commands.specs.Ends.{turn}
use Rattle.tools_commands.proofs.Telling.{whole_front}
use Rattle.tools_commands.proofs.source.list_run.Goals as goal

pub returns-in-Err-NoMemory-list_store : goal.returns-in-Err-NoMemory-list_store
returns-in-Err-NoMemory-list_store g c =
    let report = turn (g.R.Sink.end c.args.report.now) (g.R.Sink.end c.tell.new.report) in
    (c.in-Err-NoMemory-list_store.ensures.err, whole_front report (refusals_text (each refusal_in c.args.run.now.refused)) c.in-Ok.ensures.ok)
