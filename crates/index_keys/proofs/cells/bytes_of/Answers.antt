use Rattle.std.proofs.Common.{◌≡◌, ◌∙◌, ap, subst, IfOk, List, ℕ, ◌++◌, ◌∷◌, []}
use Rattle.bson_value.specs.declared.value.Value.{Value, Array}
use Rattle.bson_value.specs.Spelling.{document_text}
use Rattle.bson_value.specs.Alike.{by_name, ordered, ordered_fields}
use Rattle.bson_value.proofs.Ordered.{ordered-Array}
use Rattle.index_keys.proofs.CellValues.{single_by_name}
use Rattle.index_keys.proofs.cells.bytes_of.Goals as goal

pub returns : goal.returns
returns c =
    let d = c.in_ok-add.ensures.ok ∙ (λ i. c.new-doc.ensures i ++ (c.new.ensures i, Array c.args.values) ∷ []) in
    let o = c.into_ordered-doc.ensures ∙ (ap (λ (fs : List (List ℕ × Value)). by_name (ordered_fields fs)) d ∙ (single_by_name [] (ordered (Array c.args.values)) ∙ ap (λ (v : Value). ([], v) ∷ []) (ordered-Array c.args.values))) in
    subst (λ (fs : List (List ℕ × Value)). IfOk c.encode.result (λ text. text ≡ document_text fs)) o c.encode.ensures.bytes
