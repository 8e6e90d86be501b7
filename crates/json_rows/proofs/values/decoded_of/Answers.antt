use Rattle.std.proofs.lemmas.Result.{IfOk-weaker}
use Rattle.json_rows.specs.Rows.{value_in}
use Rattle.json_rows.proofs.values.decoded_of.Goals as goal

pub returns-in-Ok : goal.returns-in-Ok
unfolding value_in
returns-in-Ok c = IfOk-weaker c.shown.result _ _ (λ text e. (c.in-Ok.value, c.in-Ok.ensures.exact, e)) c.shown.ensures
