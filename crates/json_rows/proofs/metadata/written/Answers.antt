use Rattle.std.proofs.Common.{◌∙◌, ◌++◌, List, ℕ, ap, append_assoc, length, subst, sym}
use Rattle.std.specs.Prelude.{codes}
use Rattle.std.specs.Fmt.{decimal}
use Rattle.json_text.specs.Reading.{tree_of_text}
use Rattle.row_script.specs.Names.{Names}
use Rattle.json_rows.specs.Rows.{with_length}
use Rattle.json_rows.proofs.metadata.written.Goals as goal

pub returns : goal.returns
returns c =
    let e = c.in_ok-text.ensures in
    let text = c.in_ok-text.text in (
      e.0,
      e.1,
      subst (λ name. Names name e.0) c.in_ok-name.ensures.word e.2,
      ap tree_of_text (sym c.in_ok-name.ensures.behind) ∙ e.3,
      c.in_ok-format.ensures.ok
          ∙ (ap (λ (n : ℕ). decimal n ++ (codes " " ++ c.as_str.result.now)) c.len.ensures
          ∙ (ap (λ (t : List ℕ). decimal (length text) ++ (codes " " ++ t)) c.as_str.ensures
          ∙ (sym (append_assoc (decimal (length text)) (codes " ") text)
          ∙ ap with_length e.4))),
    )
