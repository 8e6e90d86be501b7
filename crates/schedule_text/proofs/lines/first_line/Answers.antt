use Rattle.schedule_text.proofs.lines.first_line.Goals as goal

pub returns-clause-lines : goal.returns-clause-lines
returns-clause-lines c = rw (c.split_at.ensures.front, c.split_at.ensures.back) c.first_end.ensures.lines
