use Rattle.std.proofs.Common.{◌∙◌}
use Rattle.std.proofs.lemmas.Result.{IfOk-weaker}
use Rattle.state_rows.proofs.collections.Collections.incarnation.Goals as goal

pub returns-clause-incarnation : goal.returns-clause-incarnation
returns-clause-incarnation c = IfOk-weaker c.answer.result _ _ (λ answer e. (c.in_ok-incarnation.ensures.0, c.in_ok-incarnation.ensures.1, c.in_ok-incarnation.ensures.2, e ∙ c.incarnation_text-text.ensures)) c.answer.ensures
