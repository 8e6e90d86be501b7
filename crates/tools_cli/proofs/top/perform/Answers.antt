use Rattle.std.proofs.Common.{refl, sym, subst}
use Rattle.std.specs.Prelude.{Ok}
use Rattle.drill_run.specs.Drills.{drill_line}
use Rattle.tools_words.specs.declared.order.Order.{Order}
use Rattle.tools_cli.specs.declared.texts.TheConstants.{HELP}
use Rattle.tools_commands.specs.Ends.{turn}
use Rattle.tools_cli.specs.Answers.{Says}
use Rattle.tools_cli.proofs.Due.{source_says, dump_says, restore_says, show_says}
use Rattle.tools_cli.proofs.top.perform.Goals as goal

pub returns-in-Source : goal.returns-in-Source
returns-in-Source g c =
    let input = turn (g.S.Source.end c.args.input.now) (g.S.Source.end c.list_source.new.input) in
    let output = turn (g.K.Sink.end c.args.output.now) (g.K.Sink.end c.list_source.new.output) in
    let report = turn (g.R.Sink.end c.args.report.now) (g.R.Sink.end c.list_source.new.report) in
    let P : Order → Type 0 = λ order. Says (Ok order) c.list_source.result input output report in
    subst P (sym c.in-Source.is) (source_says c.in-Source.order c.list_source.result input output report c.list_source.ensures)

pub returns-in-Dump : goal.returns-in-Dump
returns-in-Dump g c =
    let input = turn (g.S.Source.end c.args.input.now) (g.S.Source.end c.dump_source.new.input) in
    let output = turn (g.K.Sink.end c.args.output.now) (g.K.Sink.end c.dump_source.new.output) in
    let report = turn (g.R.Sink.end c.args.report.now) (g.R.Sink.end c.dump_source.new.report) in
    let P : Order → Type 0 = λ order. Says (Ok order) c.dump_source.result input output report in
    subst P (sym c.in-Dump.is) (dump_says c.dump_source.result input output report c.dump_source.ensures)

pub returns-in-Restore : goal.returns-in-Restore
returns-in-Restore g c =
    let input = turn (g.S.Source.end c.args.input.now) (g.S.Source.end c.list_archive.new.input) in
    let output = turn (g.K.Sink.end c.args.output.now) (g.K.Sink.end c.list_archive.new.output) in
    let report = turn (g.R.Sink.end c.args.report.now) (g.R.Sink.end c.args.report.now) in
    let P : Order → Type 0 = λ order. Says (Ok order) c.list_archive.result input output report in
    subst P (sym c.in-Restore.is) (restore_says c.in-Restore.order c.list_archive.result input output report c.list_archive.ensures refl)

pub returns-in-Drill : goal.returns-in-Drill
returns-in-Drill g c =
    let input = g.S.Source.end c.args.input.now in
    let output = turn (g.K.Sink.end c.args.output.now) (g.K.Sink.end c.show_drill.new.output) in
    let report = g.R.Sink.end c.args.report.now in
    let P : Order → Type 0 = λ order. Says (Ok order) c.show_drill.result (turn input input) output (turn report report) in
    subst P (sym c.in-Drill.is) (show_says (drill_line c.in-Drill.rounds) c.show_drill.result input output report c.show_drill.ensures)

pub returns-in-Help : goal.returns-in-Help
returns-in-Help g c =
    let input = g.S.Source.end c.args.input.now in
    let output = turn (g.K.Sink.end c.args.output.now) (g.K.Sink.end c.show.new.output) in
    let report = g.R.Sink.end c.args.report.now in
    let P : Order → Type 0 = λ order. Says (Ok order) c.show.result (turn input input) output (turn report report) in
    subst P (sym c.in-Help.is) (show_says HELP.now c.show.result input output report c.show.ensures)
