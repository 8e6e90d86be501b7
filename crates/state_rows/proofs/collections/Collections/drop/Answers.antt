use Rattle.std.proofs.Common.{ap, ◌∙◌}
use Rattle.std.proofs.lemmas.Result.{IfOk-weaker}
use Rattle.row_script.specs.Texts.{truth_text}
use Rattle.state_rows.proofs.collections.Collections.drop.Goals as goal

pub returns : goal.returns
returns c = IfOk-weaker c.truth.result _ _ (λ answer e. (c.in_ok-ns.ns, c.in_ok-ns.ensures, c.drop_ns.ensures.state, e ∙ ap truth_text c.drop_ns.ensures.there)) c.truth.ensures
