use Rattle.given_lines.proofs.Given.{read_given}
use Rattle.given_lines.proofs.laws.read_is_given.Goals as goal

pub returns : goal.returns
returns c = read_given c.json_is_formed.ensures c.read_is_formed.ensures c.read_is_plain.ensures
