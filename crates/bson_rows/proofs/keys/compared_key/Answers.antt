use Rattle.std.proofs.lemmas.Result.{IfOk-weaker}
use Rattle.bson_rows.proofs.keys.compared_key.Goals as goal

pub returns : goal.returns
returns c = IfOk-weaker c.order_to_written.result _ _ (λ answer e. ((c.in_ok-value.ensures.0, c.in_ok-value.value), e.0, (rw (← c.in_ok-field.ensures.word) c.in_ok-value.ensures.1), (rw (← c.in_ok-field.ensures.behind) e.1), e.2)) c.order_to_written.ensures
