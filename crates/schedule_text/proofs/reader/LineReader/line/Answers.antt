use Rattle.schedule_text.proofs.LineCaps.{keeps_cap}
use Rattle.schedule_text.proofs.reader.LineReader.line.Goals as goal

pub returns-clause-keeps : goal.returns-clause-keeps
returns-clause-keeps c = keeps_cap c.read_is_json.ensures c.args.self.now c.say.new.self c.args.number c.content-line.result.now c.say.result c.say.ensures
