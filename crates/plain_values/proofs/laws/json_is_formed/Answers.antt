use Rattle.plain_values.proofs.Given.{json_formed}
use Rattle.plain_values.proofs.laws.json_is_formed.Goals as goal

pub returns : goal.returns
returns c = json_formed
