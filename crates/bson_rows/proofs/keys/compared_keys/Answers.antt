use Rattle.std.proofs.lemmas.Result.{IfOk-weaker}
use Rattle.bson_rows.proofs.keys.compared_keys.Goals as goal

pub returns : goal.returns
returns c = IfOk-weaker c.order_to_field.result _ _ (λ answer e. ((c.in_ok-first-2.ensures.0, c.in_ok-first-2.first), e.0, (rw (← c.in_ok-first.ensures.word) c.in_ok-first-2.ensures.1), (rw (← c.in_ok-first.ensures.behind) e.1), e.2)) c.order_to_field.ensures
