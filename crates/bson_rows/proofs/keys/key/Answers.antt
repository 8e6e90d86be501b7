use Rattle.std.proofs.lemmas.Result.{IfOk-weaker}
use Rattle.bson_rows.proofs.keys.key.Goals as goal

pub returns : goal.returns
returns c = IfOk-weaker c.key_behind_ff.result _ _ (λ answer e. ((c.in_ok-value.ensures.0, c.in_ok-value.value), c.in_ok-value.ensures.1, e)) c.key_behind_ff.ensures
