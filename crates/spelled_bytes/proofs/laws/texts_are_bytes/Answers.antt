use Rattle.spelled_bytes.proofs.Texts.{texts_bytes}
use Rattle.spelled_bytes.proofs.laws.texts_are_bytes.Goals as goal

pub returns : goal.returns
returns c = texts_bytes
