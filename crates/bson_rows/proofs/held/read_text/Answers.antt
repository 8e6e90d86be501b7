use Rattle.std.proofs.Common.{rules}
use Rattle.std.proofs.lemmas.Result.{IfOk-weaker}
use Rattle.bson_rows.proofs.Shown.{before_others}
use Rattle.bson_rows.proofs.held.read_text.Goals as goal

pub returns : goal.returns
returns c = IfOk-weaker c.joined.result _ _ (λ answer e. before_others _ _ _ _ _ c.in_ok-text.ensures (search rules)) c.joined.ensures
