use Rattle.tools_words.specs.Words.{texts_of}
use Rattle.tools_commands.specs.Ends.{turn}
use Rattle.tools_cli.proofs.Written.{call_writes, call_writes_whole}
use Rattle.tools_cli.proofs.Completed.{call_completes}
use Rattle.tools_cli.proofs.top.tools.Goals as goal

pub returns-clause-lists : goal.returns-clause-lists
returns-clause-lists g c =
    let input = turn (g.S.Source.end c.args.input.now) (g.S.Source.end c.answer.new.input) in
    let output = turn (g.K.Sink.end c.args.output.now) (g.K.Sink.end c.answer.new.output) in
    let report = turn (g.R.Sink.end c.args.report.now) (g.R.Sink.end c.answer.new.report) in
    call_writes c.lists_source.ensures c.read_is_dumped.ensures c.names_stay.ensures (texts_of c.args.words.now) c.answer.result input output report c.answer.ensures

pub returns-clause-complete : goal.returns-clause-complete
returns-clause-complete g c =
    let input = turn (g.S.Source.end c.args.input.now) (g.S.Source.end c.answer.new.input) in
    let output = turn (g.K.Sink.end c.args.output.now) (g.K.Sink.end c.answer.new.output) in
    let report = turn (g.R.Sink.end c.args.report.now) (g.R.Sink.end c.answer.new.report) in
    call_completes c.archive_restores.ensures c.read_is_dumped.ensures c.archives_are_short.ensures c.names_stay.ensures (texts_of c.args.words.now) c.answer.result input output report c.answer.ensures

pub returns-clause-transactions : goal.returns-clause-transactions
returns-clause-transactions g c =
    let input = turn (g.S.Source.end c.args.input.now) (g.S.Source.end c.answer.new.input) in
    let output = turn (g.K.Sink.end c.args.output.now) (g.K.Sink.end c.answer.new.output) in
    let report = turn (g.R.Sink.end c.args.report.now) (g.R.Sink.end c.answer.new.report) in
    call_writes_whole c.lists_source.ensures c.read_is_dumped.ensures c.names_stay.ensures c.at_is_whole.ensures (texts_of c.args.words.now) c.answer.result input output report c.answer.ensures
