use Rattle.schedule_input.proofs.TextLines.{found_ok}
use Rattle.schedule_input.proofs.lines.InputLines.find_line.Goals as goal

pub returns-clause-found : goal.returns-clause-found
returns-clause-found g c =
    let s = c.self.inside in
    found_ok s.reader s.number s.end s.unread c.read_line.new.unread (g.S.Source.end c.args.input.now).bytes (g.S.Source.end c.read_line.new.input).bytes c.args.self.now c.read_line.result c.self.view_is c.self.invariant.1 c.read_line.ensures.line c.read_line.ensures.count
