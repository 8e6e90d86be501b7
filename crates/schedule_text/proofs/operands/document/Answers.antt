use Rattle.schedule_text.proofs.PlainOperands.{plain_document}
use Rattle.schedule_text.proofs.operands.document.Goals as goal

pub returns-in-Some : goal.returns-in-Some
returns-in-Some c = plain_document c.args.text.now _ (rw c.in-Some.is at c.in_ok-plain.ensures)
