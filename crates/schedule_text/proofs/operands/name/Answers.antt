use Rattle.schedule_text.proofs.Names.{name_is, no_name}
use Rattle.schedule_text.proofs.operands.name.Goals as goal

pub returns-in-Some : goal.returns-in-Some
returns-in-Some c = name_is c.args.text.now c.in-Some.name (rw c.in-Some.is at c.in_ok-found.ensures.some)

pub returns-in-None : goal.returns-in-None
returns-in-None c = no_name c.args.text.now (rw c.in-None.is at c.in_ok-found.ensures.none)
