use Rattle.std.proofs.Common.{rules}
use Rattle.std.proofs.lemmas.Result.{IfOk-weaker}
use Rattle.index_rows.proofs.collections.Collections.add_index.Goals as goal

pub returns : goal.returns
returns c = IfOk-weaker c.answer.result _ _ (λ answer e. (c.in_ok-ns.ns, c.in_ok-def.def, (search rules), (search rules), (search rules))) c.answer.ensures
