use Rattle.row_script.proofs.Parts.{first_mark, no_mark}
use Rattle.row_script.proofs.rows.parted.Goals as goal

pub returns-in-Some : goal.returns-in-Some
returns-in-Some c = first_mark _ _ _ c.in-Some.ensures.cases

pub returns-in-None : goal.returns-in-None
returns-in-None c = no_mark _ c.in-None.ensures.cases
