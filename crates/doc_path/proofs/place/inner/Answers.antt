use Rattle.std.proofs.Common.{sym}
use Rattle.doc_path.proofs.Down.{under-other}
use Rattle.doc_path.proofs.place.inner.Goals as goal

pub returns-in_default : goal.returns-in_default
returns-in_default c = sym (under-other c.args.value.now c.args.part.now c.in_default.not-Object c.in_default.not-Array)
