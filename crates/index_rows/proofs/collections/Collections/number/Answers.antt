use Rattle.std.proofs.Common.{◌∙◌, ℕ, List, ap, rules}
use Rattle.std.proofs.lemmas.Result.{IfOk-weaker}
use Rattle.index_rows.specs.Rows.{number_in, number_text}
use Rattle.index_rows.proofs.collections.Collections.number.Goals as goal

pub returns : goal.returns
returns c = IfOk-weaker c.number_text.result _ _ (λ answer e. (
  c.in_ok-ns.ns,
  (search rules),
  e ∙ (ap number_text c.in_ok-number.ensures ∙ ap (λ (i : List ℕ). number_text (number_in c.args.self.now.state c.in_ok-ns.ns i)) c.in_ok-name.ensures.behind),
)) c.number_text.ensures
