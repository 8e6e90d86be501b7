use Rattle.schedule_text.proofs.LineEnds.{first_line_cut, no_feed}
use Rattle.schedule_text.proofs.lines.first_end.Goals as goal

pub returns-in-Some-clause-lines : goal.returns-in-Some-clause-lines
returns-in-Some-clause-lines c = first_line_cut c.in-Some.end c.args.bytes.now c.in-Some.ensures

pub returns-in-None-clause-lines : goal.returns-in-None-clause-lines
returns-in-None-clause-lines c = no_feed c.args.bytes.now c.in-None.ensures c.requires
