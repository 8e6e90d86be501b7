use Rattle.json_text.proofs.FoundValues.{json_found}
use Rattle.json_text.proofs.laws.read_is_json.Goals as goal

pub returns : goal.returns
returns c = json_found
