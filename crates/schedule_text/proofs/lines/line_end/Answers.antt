use Rattle.std.proofs.Common.{sym, ◌∙◌}
use Rattle.schedule_text.proofs.LineEnds.{ends_at, ends_nowhere}
use Rattle.schedule_text.proofs.lines.line_end.Goals as goal

pub returns-in-Some : goal.returns-in-Some
returns-in-Some c = ends_at c.args.bytes.now c.in-Some.at (sym c.line_feed.ensures ∙ c.in-Some.is)

pub returns-in-None : goal.returns-in-None
returns-in-None c = ends_nowhere c.args.bytes.now (sym c.line_feed.ensures ∙ c.in-None.is)
