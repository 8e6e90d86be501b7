use Rattle.plain_values.proofs.Given.{read_formed}
use Rattle.plain_values.proofs.laws.read_is_formed.Goals as goal

pub returns : goal.returns
returns c = read_formed
