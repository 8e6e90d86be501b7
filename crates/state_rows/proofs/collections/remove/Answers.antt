use Rattle.std.proofs.Common.{ap, ◌∙◌}
use Rattle.std.proofs.lemmas.Result.{IfOk-weaker}
use Rattle.row_script.specs.Texts.{truth_text}
use Rattle.state_rows.proofs.collections.remove.Goals as goal

pub returns : goal.returns
returns c = IfOk-weaker c.truth.result _ _ (λ answer e. (c.in_ok-id.id, c.in_ok-id.ensures, c.remove.ensures.state, e ∙ ap truth_text c.remove.ensures.there)) c.truth.ensures
