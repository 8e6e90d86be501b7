use Rattle.std.proofs.Common.{rules, ◌∙◌}
use Rattle.std.proofs.lemmas.Result.{IfOk-weaker}
use Rattle.bson_rows.proofs.Shown.{both_lists}
use Rattle.bson_rows.proofs.orders.list_text.Goals as goal

pub returns : goal.returns
returns c = IfOk-weaker c.with_numbers.result _ _ (λ answer e. both_lists _ _ _ _ _ (c.as_slice.ensures ∙ c.requires) (c.as_slice-2.ensures ∙ c.keep_others.ensures) (search rules) c.in_ok-text.ensures e) c.with_numbers.ensures
