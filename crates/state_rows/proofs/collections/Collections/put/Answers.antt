use Rattle.std.proofs.Common.{rules}
use Rattle.std.proofs.lemmas.Result.{IfOk-weaker}
use Rattle.state_rows.proofs.collections.Collections.put.Goals as goal

pub returns : goal.returns
returns c = IfOk-weaker c.put_written.result _ _ (λ answer e. (c.in_ok-ns.ns, e.0, (search rules), (rw (← c.in_ok-name.ensures.behind) e.1), e.2)) c.put_written.ensures
