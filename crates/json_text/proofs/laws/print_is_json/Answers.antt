use Rattle.json_text.proofs.Reprinted.{print_json}
use Rattle.json_text.proofs.laws.print_is_json.Goals as goal

pub returns : goal.returns
returns c = print_json
