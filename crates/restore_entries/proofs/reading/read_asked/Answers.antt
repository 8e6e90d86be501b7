use Rattle.std.proofs.Common.{sym, ◌∙◌}
use Rattle.bson_view.specs.Views.{document}
use Rattle.restore_entries.proofs.Readings.{changed}
use Rattle.restore_entries.proofs.reading.read_asked.Goals as goal

pub returns-in-Some : goal.returns-in-Some
returns-in-Some c =
    let fs = document c.args.view.now in
    c.at_entry.ensures ∙ changed c.args.rules.now fs (c.args.ts, c.args.text.now) c.in-Some.change (sym c.in-Some.is ∙ c.in_ok-change.ensures fs c.requires)
