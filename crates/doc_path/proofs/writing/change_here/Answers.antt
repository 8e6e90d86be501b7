use Rattle.doc_path.proofs.Steps.{other_off}
use Rattle.doc_path.proofs.writing.change_here.Goals as goal

pub returns-in_default : goal.returns-in_default
returns-in_default c = record { ok = other_off c.args.rule c.args.last.now c.args.action c.args.value.now c.in_default.not-Object c.in_default.not-Array; err = tt; calm = tt }
