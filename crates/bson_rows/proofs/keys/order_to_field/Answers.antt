use Rattle.std.proofs.lemmas.Result.{IfOk-weaker}
use Rattle.bson_rows.proofs.keys.order_to_field.Goals as goal

pub returns : goal.returns
returns c = IfOk-weaker c.keys_order.result _ _ (λ answer e. ((c.in_ok-second.ensures.0, c.in_ok-second.second), c.in_ok-second.ensures.1, e)) c.keys_order.ensures
