use Rattle.std.proofs.Common.{◌≡◌, ◌∙◌, ◌%◌, List, ℕ, ap, rules, subst}
use Rattle.std.specs.Prelude.{Ok}
use Rattle.std.proofs.lemmas.Result.{IfOk-weaker}
use Rattle.row_script.specs.Texts.{number_of}
use Rattle.json_rows.specs.Rows.{value_in}
use Rattle.json_rows.proofs.values.decoded.Goals as goal

pub returns : goal.returns
returns c = IfOk-weaker c.decoded_of.result _ _ (λ text e. (
  c.in_ok-bytes.bytes.items,
  e.0,
  (search rules),
  subst (λ (tag : ℕ). value_in (tag % 256) c.in_ok-bytes.bytes.items ≡ Ok e.0) (c.in_ok-tag-2.ensures.value ∙ ap number_of c.in_ok-tag.ensures.word)
      (subst (λ (bytes : List ℕ). value_in (c.in_ok-tag-2.field-0 % 256) bytes ≡ Ok e.0) c.deref.ensures.value e.1),
  e.2,
)) c.decoded_of.ensures
