use Rattle.given_lines.proofs.Timed.{read_timed}
use Rattle.given_lines.proofs.laws.read_is_timed.Goals as goal

pub returns : goal.returns
returns c = read_timed
