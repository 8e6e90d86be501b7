use Rattle.std.proofs.Common.{rules}
use Rattle.std.proofs.lemmas.Result.{IfOk-weaker}
use Rattle.state_rows.proofs.collections.replace.Goals as goal

pub returns : goal.returns
returns c = IfOk-weaker c.replace.result _ _ (λ answer e. (c.in_ok-id-2.id, e.0, (search rules), (rw (← c.in_ok-id.ensures.behind) e.1), e.2)) c.replace.ensures
