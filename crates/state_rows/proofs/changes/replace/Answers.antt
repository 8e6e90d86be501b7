use Rattle.std.proofs.lemmas.Result.{IfOk-weaker}
use Rattle.state_rows.proofs.changes.replace.Goals as goal

pub returns : goal.returns
returns c = IfOk-weaker c.change.result _ _ (λ answer e. (c.in_ok-second.ensures.0, c.in_ok-second.ensures.1, (cc (e, c.in_ok-second.ensures.2, c.in_ok-first.ensures)))) c.change.ensures
