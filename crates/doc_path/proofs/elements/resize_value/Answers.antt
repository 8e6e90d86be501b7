use Rattle.doc_path.proofs.Steps.{resize_other}
use Rattle.doc_path.proofs.elements.resize_value.Goals as goal

pub returns-in_default : goal.returns-in_default
returns-in_default c = record { ok = resize_other c.args.len c.args.value.now c.in_default.not-Array; err = tt }
