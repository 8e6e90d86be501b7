use Rattle.update_model.proofs.SameValues.{same_told}
use Rattle.update_ops.proofs.values.equals.Goals as goal

pub returns : goal.returns
returns c = same_told c.same.result c.args.a.now c.args.b.now c.same.ensures
