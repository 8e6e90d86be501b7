use Rattle.bson_check.proofs.Whole.{ok_if_spelled, answers_fault}
use Rattle.bson_check.proofs.checking.check.Goals as goal

pub returns-clause-spelled : goal.returns-clause-spelled
returns-clause-spelled c = ok_if_spelled c.args.max c.args.depth c.args.bytes.now c.whole.result c.whole.ensures

pub returns-clause-fault : goal.returns-clause-fault
returns-clause-fault c = answers_fault c.args.max c.args.depth c.args.bytes.now c.whole.result c.whole.ensures
