use Rattle.std.proofs.Common.{rules}
use Rattle.std.proofs.lemmas.Result.{IfOk-weaker}
use Rattle.state_rows.proofs.collections.Collections.rename.Goals as goal

pub returns : goal.returns
returns c = IfOk-weaker c.renamed_to.result _ _ (λ answer e. (c.in_ok-from-2.from, e.0, (search rules), (rw (← c.in_ok-from.ensures.behind) e.1), e.2)) c.renamed_to.ensures
