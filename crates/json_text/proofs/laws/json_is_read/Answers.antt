use Rattle.json_text.proofs.Spelled.{json_read}
use Rattle.json_text.proofs.laws.json_is_read.Goals as goal

pub returns : goal.returns
returns c = json_read
