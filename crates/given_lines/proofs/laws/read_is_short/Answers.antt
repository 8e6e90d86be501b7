use Rattle.given_lines.proofs.Timed.{read_short}
use Rattle.given_lines.proofs.laws.read_is_short.Goals as goal

pub returns : goal.returns
returns c = read_short
