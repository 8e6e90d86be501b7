use Rattle.std.proofs.lemmas.Result.{IfOk-weaker}
use Rattle.archive_rows.proofs.patterns.taken.Goals as goal

pub returns : goal.returns
returns c = IfOk-weaker c.truth.result _ _ (λ answer e. (c.matches-takes.result, c.matches-takes.ensures, e)) c.truth.ensures
