use Rattle.std.proofs.Common.{ℕ, List, ap, sym, ◌∙◌}
use Rattle.std.specs.Prelude.{slice_get, is_some}
use Rattle.std.specs.Option.{option_copied}
use Rattle.extjson.proofs.Dollars.{no_dollar}
use Rattle.plain_json.proofs.names.names_wrapper.Goals as goal

pub returns-in_default : goal.returns-in_default
returns-in_default c =
    ap is_some (no_dollar c.args.name.now _ (sym (ap option_copied c.in_default.is) ∙ (c.first.ensures.value ∙ ap (λ (l : List ℕ). slice_get l 0) c.as_bytes.ensures.value)) (λ e. c.in_default.field-0-test.1 cc))

pub returns-in_default-2 : goal.returns-in_default-2
returns-in_default-2 c =
    ap is_some (no_dollar c.args.name.now _ (sym (ap option_copied c.in_default.is) ∙ (c.first.ensures.value ∙ ap (λ (l : List ℕ). slice_get l 0) c.as_bytes.ensures.value)) (λ e. cc))
