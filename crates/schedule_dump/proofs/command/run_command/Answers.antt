use Rattle.schedule_dump.proofs.Reaching.{command_front, refused_command}
use Rattle.schedule_dump.proofs.command.run_command.Goals as goal

pub returns-then-recorded-ge-MOST_ENTRIES-clause-runs :
    goal.returns-then-recorded-ge-MOST_ENTRIES-clause-runs
returns-then-recorded-ge-MOST_ENTRIES-clause-runs g c = (tt, λ r at. command_front c.args.number c.args.cmd.now r (g.R.Sink.end c.args.report.now).bytes)

pub returns-in-Err-Refused-clause-runs : goal.returns-in-Err-Refused-clause-runs
returns-in-Err-Refused-clause-runs g c =
    refused_command c.args.number c.args.cmd.now c.in-Err-Refused.row c.in-Err-Refused.field-0 c.args.store.now c.apply.new.self (g.R.Sink.end c.args.report.now).bytes (g.R.Sink.end c.refuse.new.report).bytes c.refuse.result
    c.in-Err-Refused.field-0-is c.in-Err-Refused.ensures.stage c.in-Err-Refused.ensures.err c.refuse.ensures.tells

pub returns-in-Err-NoMemory-clause-runs : goal.returns-in-Err-NoMemory-clause-runs
returns-in-Err-NoMemory-clause-runs g c = (tt, λ r at. command_front c.args.number c.args.cmd.now r (g.R.Sink.end c.args.report.now).bytes)
