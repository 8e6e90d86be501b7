use Rattle.doc_path.proofs.Keys.{digits_test}
use Rattle.doc_path.proofs.parts.Part.same.Goals as goal

pub returns-in-Index-other : goal.returns-in-Index-other
returns-in-Index-other c = rw (c.in-Index.is, c.in-Index-other.is) (digits_test c.in-Index.at c.in-Index-other.other)
