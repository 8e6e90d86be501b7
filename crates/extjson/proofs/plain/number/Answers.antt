use Rattle.extjson.specs.Numbers.{is_whole}
use Rattle.std.proofs.Common.{◌≡◌, true, ap, sym, subst, ◌∙◌}
use Rattle.std.specs.Prelude.{IfOk}
use Rattle.json_tree.specs.declared.tree.Tree.{Tree}
use Rattle.extjson.specs.Plain.{number_tree}
use Rattle.extjson.proofs.Wrapping.{number_int, number_long}
use Rattle.extjson.proofs.plain.number.Goals as goal

pub returns-in-Some : goal.returns-in-Some
returns-in-Some c =
    let whole : is_whole c.as_str-text.result.now ≡ true = cc in
    subst (λ (u : Tree). IfOk c.int.result (λ t. t ≡ u)) (sym (number_int c.as_str-text.result.now c.in-Some.n whole c.in-Some.ensures) ∙ ap number_tree c.as_str-text.ensures.text) c.int.ensures

pub returns-in-Some-to_long : goal.returns-in-Some-to_long
returns-in-Some-to_long c =
    let whole : is_whole c.as_str-text.result.now ≡ true = cc in
    subst (λ (u : Tree). IfOk c.long.result (λ t. t ≡ u)) (sym (number_long c.as_str-text.result.now c.in-Some-to_long.n whole c.in_default.ensures c.in-Some-to_long.ensures) ∙ ap number_tree c.as_str-text.ensures.text) c.long.ensures
