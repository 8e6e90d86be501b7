use Rattle.doc_path.proofs.Steps.{index_off}
use Rattle.doc_path.proofs.writing.change_in_document.Goals as goal

pub returns-in_default : goal.returns-in_default
returns-in_default c = record { ok = index_off c.args.rule c.args.last.now c.in-Index.at c.args.action c.args.doc.now c.in_default.not-V1 c.in-Index.is; err = tt; calm = tt }
