use Rattle.std.proofs.Common.{rules}
use Rattle.std.proofs.lemmas.Result.{IfOk-weaker}
use Rattle.state_rows.proofs.collections.Collections.create.Goals as goal

pub returns : goal.returns
returns c = IfOk-weaker c.answer.result _ _ (λ answer e. (c.in_ok-ns.ns, c.in_ok-create.ensures.0, (search rules), (rw (← c.in_ok-name.ensures.behind) c.in_ok-create.ensures.1), c.in_ok-create.ensures.2)) c.answer.ensures
