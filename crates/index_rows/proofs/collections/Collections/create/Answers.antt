use Rattle.std.proofs.Common.{rules}
use Rattle.std.proofs.lemmas.Result.{IfOk-weaker}
use Rattle.index_rows.proofs.collections.Collections.create.Goals as goal

pub returns : goal.returns
returns c = IfOk-weaker c.answer.result _ _ (λ answer e. (c.in_ok-ns.ns, c.in_ok-options.options, (search rules), (search rules), (search rules))) c.answer.ensures
