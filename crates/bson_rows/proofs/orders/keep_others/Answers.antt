use Rattle.std.proofs.Common.{◌∙◌, ℤ, pos, not, ap, rules, tests}
use Rattle.std.specs.List.{filter}
use Rattle.std.specs.Ordering.{int_eq}
use Rattle.std.proofs.lemmas.Fn.{filter_same}
use Rattle.bson_rows.proofs.orders.keep_others.Goals as goal

pub returns : goal.returns
returns c = filter_same _ (λ (z : ℤ). not (int_eq z (pos 2))) _ (λ x b f' k. search (rules, tests)) _ _ c.retain.ensures ∙ ap (filter (λ (z : ℤ). not (int_eq z (pos 2)))) c.requires
