use Rattle.std.proofs.Common.{sym, ◌∙◌}
use Rattle.bson_view.specs.Views.{document}
use Rattle.entry_model.specs.Reading.{entry_of}
use Rattle.restore_entries.specs.Oplog.{Head, at_head}
use Rattle.restore_entries.proofs.Readings.{headless, not_asked, asked, weaken}
use Rattle.restore_entries.proofs.reading.read_entry.Goals as goal

pub returns-in_default : goal.returns-in_default
returns-in_default c =
    let fs = document c.args.view.now in
    headless c.args.rules.now c.args.limit fs (c.in_default.ensures fs c.requires)

pub returns-then-is_asked : goal.returns-then-is_asked
returns-then-is_asked c =
    let fs = document c.args.view.now in
    let h : Head = (c.in-Some.ts, c.in-Some.text.now) in
    weaken c.read_asked.result (at_head c.args.rules.now fs h (entry_of fs)) _
    (asked c.args.rules.now c.args.limit fs h (c.in-Some.ensures fs c.requires) (sym c.is_asked.ensures ∙ c.if-is_asked.true)) c.read_asked.ensures

pub returns-else-is_asked : goal.returns-else-is_asked
returns-else-is_asked c =
    let fs = document c.args.view.now in
    let h : Head = (c.in-Some.ts, c.in-Some.text.now) in
    not_asked c.args.rules.now c.args.limit fs h (c.in-Some.ensures fs c.requires) (sym c.is_asked.ensures ∙ c.if-is_asked.false)
