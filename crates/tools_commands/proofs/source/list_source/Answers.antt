use Rattle.tools_commands.specs.Ends.{turn}
use Rattle.tools_commands.proofs.Running.{run_says}
use Rattle.tools_commands.proofs.source.list_source.Goals as goal

pub returns-in-Ok : goal.returns-in-Ok
returns-in-Ok g c =
    let input = turn (g.S.Source.end c.args.input.now) (g.S.Source.end c.run_input.new.input) in
    let output = turn (g.K.Sink.end c.args.output.now) (g.K.Sink.end c.list_run.new.output) in
    let report = turn (g.R.Sink.end c.args.report.now) (g.R.Sink.end c.list_run.new.report) in
    run_says c.args.order input output report c.in-Ok.run' c.in-Ok.ensures.runs c.list_run.result c.list_run.ensures
