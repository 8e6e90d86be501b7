use Rattle.std.proofs.Common.{◌≡◌, List, ℕ, ◌++◌, sym, ap, subst, ◌∙◌}
use Rattle.std.specs.Prelude.{OnOk}
use Rattle.json_text.specs.Print.{quoted}
use Rattle.bson_view.specs.Meaning.{AreValue}
use Rattle.bson_view.specs.Views.{elem_value}
use Rattle.document_lines.specs.Json.{json_of}
use Rattle.document_lines.proofs.JsonPieces.{of_text}
use Rattle.document_lines.proofs.LeafTexts.{str_json}
use Rattle.document_lines.proofs.leaves.put_text.Goals as goal

pub returns : goal.returns
returns c =
    let e = c.args.elem.now in
    let k = of_text e.value.now (elem_value e) (subst (λ (t : ℕ). AreValue t e.value.now (elem_value e)) c.requires c.spells.ensures.spelled) in
    subst (λ (z : List ℕ). OnOk c.put_quoted.result (c.put_quoted.new.out.items ≡ c.args.out.now.items ++ z)) (ap quoted k.held ∙ sym (str_json k.text) ∙ sym (ap json_of k.is)) c.put_quoted.ensures
