use Rattle.std.proofs.Common.{ℕ, ◌∷◌, ap, sym, ◌∙◌, length}
use Rattle.std.proofs.lemmas.Bool.{eqb-true}
use Rattle.std.proofs.lemmas.List.{nil_from_length}
use Rattle.plain_json.proofs.Values.{document_read}
use Rattle.plain_json.proofs.reading.document.Goals as goal

pub returns : goal.returns
returns c =
    let first = sym c.space.ensures.value ∙ c.in-Some-eq123-default.ensures.cases.0 ∙ ap (λ (b : ℕ). b ∷ c.in-Some-eq123-default.rest.now) c.in-Some-eq123-default.field-0-0-test in
    let none = nil_from_length c.space-2.result.now (eqb-true (length c.space-2.result.now) 0 (sym c.is_empty.ensures ∙ c.if-not-is_empty.false)) in
    document_read c.args.bytes.now c.in-Some-eq123-default.rest.now c.in_ok-doc.rest.now c.in_ok-doc.doc first c.in_ok-doc.ensures.read (sym c.space-2.ensures.value ∙ none)
