use Rattle.std.proofs.Common.{arith, false}
use Rattle.std.specs.Prelude.{nat_eq}
use Rattle.bson_value.specs.Digits.{digits}
use Rattle.doc_path.proofs.Keys.{named_test, unnamed_test}
use Rattle.delta_apply.proofs.Names.{test_is}
use Rattle.delta_apply.proofs.touched.is_index.Goals as goal

pub returns-in-Some : goal.returns-in-Some
returns-in-Some c = test_is (nat_eq c.in-Some.n c.args.at) (digits c.args.at) c.args.name.now (named_test c.args.name.now c.in-Some.n c.args.at c.in-Some.ensures.some)

pub returns-in-None : goal.returns-in-None
returns-in-None c = test_is false (digits c.args.at) c.args.name.now (unnamed_test c.args.name.now c.args.at (omega (arith, c.ranges.at)) c.in-None.ensures.none)
