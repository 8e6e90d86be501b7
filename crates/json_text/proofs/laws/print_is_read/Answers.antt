use Rattle.json_text.proofs.Reprinted.{print_read}
use Rattle.json_text.proofs.laws.print_is_read.Goals as goal

pub returns : goal.returns
returns c = print_read
