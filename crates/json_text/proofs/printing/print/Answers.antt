use Rattle.json_text.proofs.Reprinted.{printed_back}
use Rattle.json_text.proofs.printing.print.Goals as goal

pub returns-clause-read : goal.returns-clause-read
returns-clause-read c = λ le. printed_back c.printed.result c.args.tree.now c.printed.ensures.text c.printed.ensures.well_formed le
