use Rattle.std.proofs.Common.{arith}
use Rattle.doc_path.proofs.Keys.{named_test, unnamed_test}
use Rattle.doc_path.proofs.parts.is_index.Goals as goal

pub returns-in-Some : goal.returns-in-Some
returns-in-Some c = named_test c.args.name.now c.in-Some.n c.args.at c.in-Some.ensures.some

pub returns-in-None : goal.returns-in-None
returns-in-None c = unnamed_test c.args.name.now c.args.at (omega (arith, c.ranges.at)) c.in-None.ensures.none
