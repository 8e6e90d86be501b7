use Rattle.std.proofs.Common.{rules}
use Rattle.std.proofs.lemmas.Result.{IfOk-weaker}
use Rattle.state_rows.proofs.collections.Collections.replace.Goals as goal

pub returns : goal.returns
returns c = IfOk-weaker c.answer.result _ _ (λ answer e. (c.in_ok-ns.ns, c.in_ok-replace.ensures.0, c.in_ok-replace.ensures.1, (search rules), (rw (← c.in_ok-name.ensures.behind) c.in_ok-replace.ensures.2), (rw (← c.in_ok-name.ensures.behind) c.in_ok-replace.ensures.3), c.in_ok-replace.ensures.4)) c.answer.ensures
