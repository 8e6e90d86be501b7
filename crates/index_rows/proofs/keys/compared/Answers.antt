use Rattle.std.proofs.Common.{rules}
use Rattle.std.proofs.lemmas.Result.{IfOk-weaker}
use Rattle.index_rows.proofs.keys.compared.Goals as goal

pub returns : goal.returns
returns c = IfOk-weaker c.truth.result _ _ (λ answer e. (
  c.both.result.0.now,
  c.both.result.1.now,
  c.in_ok-are_same.ensures.0,
  c.in_ok-are_same.ensures.1,
  c.in_ok-are_same.are_same,
  (search rules),
  (search rules),
  (search rules),
  (search rules),
  e,
)) c.truth.ensures
