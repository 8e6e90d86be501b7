use Rattle.plain_values.proofs.Given.{read_plain}
use Rattle.plain_values.proofs.laws.read_is_plain.Goals as goal

pub returns : goal.returns
returns c = read_plain
